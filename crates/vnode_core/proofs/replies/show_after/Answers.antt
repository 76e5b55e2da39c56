use Rattle.std.proofs.Common.{◌∙◌, ◌++◌, sym, ap, map}
use Rattle.std.proofs.lemmas.Simd.{map-map}
use Rattle.std.proofs.lemmas.List.{append-nil}
use Rattle.std.specs.Prelude.{Option}
use Rattle.std.specs.Borrow.{Bor}
use Rattle.riak_msgs.specs.Contents.{Content, shown}
use Rattle.riak_msgs.specs.declared.Shown.{Shown}
use Rattle.vnode_core.specs.Replies.{filled}
use Rattle.vnode_core.proofs.replies.show_after.Goals as goal

pub returns : goal.returns
returns c =
    let show : Option (Bor (Option Content)) → Shown = λ sibling. shown c.args.is_bare (filled c.args.content.now sibling) in
    let all = c.loop-sibling.all in
    sym (append-nil all) ∙ ap (λ xs. all ++ map show xs) (sym c.in-None.ensures.steps.0) ∙ c.loop-sibling.invariant
    ∙ ap (map show) (c.into_iter-sibling-iterator.ensures.into_iter_gives ∙ c.values-sibling-items.ensures)
    ∙ map-map show (λ entry. entry.1) c.args.after.now.meaning.live

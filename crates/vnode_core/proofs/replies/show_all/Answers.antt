use Rattle.std.proofs.Common.{◌∙◌, ◌++◌, sym, ap, map}
use Rattle.std.proofs.lemmas.Simd.{map-map}
use Rattle.std.proofs.lemmas.List.{append-nil}
use Rattle.riak_msgs.specs.Contents.{shown}
use Rattle.vnode_core.proofs.replies.show_all.Goals as goal

pub returns : goal.returns
returns c =
    let bare = c.args.is_bare in
    let all = c.loop-sibling.all in
    sym (append-nil all) ∙ ap (λ xs. all ++ map (shown bare) xs) (sym c.in-None.ensures.steps.0) ∙ c.loop-sibling.invariant
    ∙ ap (map (shown bare)) (c.into_iter-sibling-iterator.ensures.into_iter_gives ∙ c.values-sibling-items.ensures)
    ∙ map-map (shown bare) (λ entry. entry.1) c.args.key.now.clock.meaning.live

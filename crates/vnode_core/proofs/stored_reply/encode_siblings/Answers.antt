use Rattle.std.proofs.Common.{◌≡◌, List, map, sym, ap, subst, ◌∙◌}
use Rattle.std.proofs.lemmas.Simd.{map-map}
use Rattle.riak_msgs.specs.Encoding.{repeated_field}
use Rattle.riak_msgs.specs.Contents.{shown}
use Rattle.riak_msgs.specs.Encoding.{shown_message}
use Rattle.riak_msgs.specs.declared.Shown.{Shown}
use Rattle.vnode_core.specs.Replies.{shown_siblings}
use Rattle.vnode_core.proofs.stored_reply.encode_siblings.Goals as goal

pub returns : goal.returns
returns g c =
    let bare = c.args.is_bare in
    let out = c.loop-sibling.out in
    let all : map (shown bare) _ ≡ shown_siblings bare c.args.key =
    ap (map (shown bare)) (c.into_iter-sibling-iterator.ensures.into_iter_gives ∙ c.values-sibling-items.ensures)
    ∙ map-map (shown bare) (λ entry. entry.1) c.in-Some.key.now.clock.meaning.live
    ∙ ap (shown_siblings bare) (sym c.in-Some.is) in
    let done = c.loop-sibling.invariant out
    (subst (λ xs. g.O.Output.appends out (repeated_field shown_message 1 (map (shown bare) xs)) out) (sym c.in-None.ensures.steps.0) (g.met.O.Output.nothing out)) in
    subst (λ (xs : List Shown). g.O.Output.appends c.args.out.now (repeated_field shown_message 1 xs) out) all done

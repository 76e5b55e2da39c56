use Rattle.std.proofs.Common.{◌∙◌, ◌-◌, ◌^◌, ap, min, refl, sym, arith}
use Rattle.std.specs.Prelude.{Option, Some}
use Rattle.riak_msgs.specs.declared.Key.{Key}
use Rattle.riak_msgs.specs.KeyOrder.{key_cmp}
use Rattle.clock_store.specs.Behind.{next_entry}
use Rattle.clock_store.specs.Keys.{stored_of}
use Rattle.vnode_core.specs.Left.{count_left}
use Rattle.vnode_core.proofs.Lefts.{count-first, count-next, count-last, next-fewer}
use Rattle.vnode_core.proofs.left.count_left.Goals as goal

pub loop-parts-init : goal.loop-parts-init
loop-parts-init c = (omega arith, count-first c.args.primary.now.state c.args.fallback.now.state (2 ^ 64 - 1))

pub returns-in_default : goal.returns-in_default
returns-in_default c =
    let there = ap (λ (o : Option Key). next_entry key_cmp o c.args.fallback.now.state.keys) (sym (c.given_parts.ensures ∙ c.as_ref.ensures.value)) in
    count-last c.args.primary.now.state c.args.fallback.now.state c.loop-parts.count (2 ^ 64 - 1) (min (count_left c.args.primary.now.state c.args.fallback.now.state.keys) (2 ^ 64 - 1))
    c.loop-parts.at c.loop-parts.invariant.0 c.loop-parts.invariant.1 (there ∙ sym c.in_default.ensures.next)

pub loop-parts-smaller : goal.loop-parts-smaller
loop-parts-smaller c =
    let there = ap (λ (o : Option Key). next_entry key_cmp o c.args.fallback.now.state.keys) (sym (c.given_parts.ensures ∙ c.as_ref.ensures.value)) in
    let next = there ∙ sym c.in-Some.ensures.next ∙ ap (λ (key : Key). Some (key, stored_of c.in-Some.stored.now)) (sym c.in_ok-key.ensures) in
    next-fewer c.args.fallback.now.state c.requires c.loop-parts.at c.in_ok-key.key (stored_of c.in-Some.stored.now) next

pub loop-parts-preserved : goal.loop-parts-preserved
loop-parts-preserved c =
    let there = ap (λ (o : Option Key). next_entry key_cmp o c.args.fallback.now.state.keys) (sym (c.given_parts.ensures ∙ c.as_ref.ensures.value)) in
    let next = there ∙ sym c.in-Some.ensures.next ∙ ap (λ (key : Key). Some (key, stored_of c.in-Some.stored.now)) (sym c.in_ok-key.ensures) in
    let added = c.add_left-count.ensures in (
      omega (arith, added),
      count-next c.args.primary.now.state c.args.fallback.now.state c.requires c.loop-parts.count c.add_left-count.result (2 ^ 64 - 1) (min (count_left c.args.primary.now.state c.args.fallback.now.state.keys) (2 ^ 64 - 1))
          c.loop-parts.at c.in_ok-key.key c.in_ok-key.key (stored_of c.in-Some.stored.now) c.is_copied.result
          c.loop-parts.invariant.1 next refl c.is_copied.ensures added,
    )

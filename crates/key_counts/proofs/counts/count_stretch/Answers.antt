use Rattle.std.proofs.Common.{◌∙◌, false, ap, refl, sym, subst}
use Rattle.std.specs.Prelude.{Option, Some}
use Rattle.std.specs.Option.{option_map}
use Rattle.riak_msgs.specs.declared.Key.{Key}
use Rattle.riak_msgs.specs.KeyOrder.{key_cmp}
use Rattle.names.specs.KeyRefs.{key_found}
use Rattle.vnode_core.specs.Left.{stored_of}
use Rattle.vnode_core.proofs.Lefts.{next_entry, next-fewer}
use Rattle.key_counts.specs.Stored.{IsStretch}
use Rattle.key_counts.specs.Walk.{reached}
use Rattle.key_counts.proofs.Walks.{walk-first, walk-last, walk-next, walk-stops}
use Rattle.key_counts.proofs.counts.count_stretch.Goals as goal

pub loop-next-init : goal.loop-next-init
loop-next-init c = (walk-first c.args.vnode.now.state c.args.at.now c.none-counts.result c.none-counts.ensures, refl)

pub returns-in_default : goal.returns-in_default
returns-in_default c =
    let state = c.args.vnode.now.state in
    let found = c.loop-next.found in
    let there = ap (λ (o : Option Key). next_entry key_cmp (reached o found) state.keys) (sym (c.as_ref.ensures.value ∙ c.loop-next.invariant.1)) ∙ sym c.in-Ok.ensures in
    walk-last state c.args.at.now (reached c.args.at.now found) c.loop-next.at c.loop-next.counts c.loop-next.invariant.0
    (there ∙ ap (option_map (λ e. (key_found e.0, stored_of e.1.now))) c.in_default.is)

pub returns-in-Some-ends_at : goal.returns-in-Some-ends_at
returns-in-Some-ends_at c =
    let state = c.args.vnode.now.state in
    let found = c.loop-next.found in
    let began = c.args.at.now in
    let parts = key_found c.in-Some.parts in
    let there = ap (λ (o : Option Key). next_entry key_cmp (reached o found) state.keys) (sym (c.as_ref.ensures.value ∙ c.loop-next.invariant.1)) ∙ sym c.in-Ok.ensures in
    let next = there ∙ ap (option_map (λ e. (key_found e.0, stored_of e.1.now))) c.in-Some.is in
    let counts = c.plus-counts.result in
    let so_far = walk-next state began c.requires c.loop-next.counts c.count_key.result counts (reached began found) parts (stored_of c.in-Some.stored.now)
    c.loop-next.invariant.0 next c.count_key.ensures c.plus-counts.ensures in
    subst (λ (k : Key). IsStretch state began (Some k) (record { counts = counts; is_last = false })) (sym c.in-Some-ends_at.ensures)
    (walk-stops state began (Some parts) counts so_far)

pub loop-next-smaller : goal.loop-next-smaller
loop-next-smaller c =
    let state = c.args.vnode.now.state in
    let found = c.loop-next.found in
    let there = ap (λ (o : Option Key). next_entry key_cmp (reached o found) state.keys) (sym (c.as_ref.ensures.value ∙ c.loop-next.invariant.1)) ∙ sym c.in-Ok.ensures in
    let next = there ∙ ap (option_map (λ e. (key_found e.0, stored_of e.1.now))) c.in-Some.is in
    next-fewer state c.requires (reached c.args.at.now found) (key_found c.in-Some.parts) (stored_of c.in-Some.stored.now) next

pub loop-next-preserved : goal.loop-next-preserved
loop-next-preserved c =
    let state = c.args.vnode.now.state in
    let found = c.loop-next.found in
    let began = c.args.at.now in
    let there = ap (λ (o : Option Key). next_entry key_cmp (reached o found) state.keys) (sym (c.as_ref.ensures.value ∙ c.loop-next.invariant.1)) ∙ sym c.in-Ok.ensures in
    let next = there ∙ ap (option_map (λ e. (key_found e.0, stored_of e.1.now))) c.in-Some.is in
    let so_far = walk-next state began c.requires c.loop-next.counts c.count_key.result c.plus-counts.result (reached began found) (key_found c.in-Some.parts) (stored_of c.in-Some.stored.now)
    c.loop-next.invariant.0 next c.count_key.ensures c.plus-counts.ensures in
    (so_far, c.loop-next.invariant.1)

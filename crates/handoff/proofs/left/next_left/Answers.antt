use Rattle.std.proofs.Common.{◌∙◌, ◌≤◌, ap, length, refl, sym, subst, arith}
use Rattle.std.specs.Prelude.{Option, Some}
use Rattle.std.specs.Option.{option_map}
use Rattle.clock_store.specs.Behind.{next_entry}
use Rattle.clock_store.specs.KeyRefs.{key_found}
use Rattle.clock_store.specs.Keys.{stored_of}
use Rattle.riak_msgs.specs.declared.Key.{Key}
use Rattle.riak_msgs.specs.KeyOrder.{key_cmp}
use Rattle.vnode_core.specs.Left.{keys_behind}
use Rattle.vnode_core.proofs.Lefts.{behind-last, next-fewer}
use Rattle.handoff.specs.Left.{GoesOnInRest}
use Rattle.handoff.proofs.Lefts.{copied-none, goes-on, next-copied, next-left, next-passed}
use Rattle.handoff.proofs.left.next_left.Goals as goal

pub loop-parts-init : goal.loop-parts-init
loop-parts-init c =
    let primary = c.args.primary.now.state in
    let fallback = c.args.fallback.now.state in
    let all = keys_behind (option_map (λ k. k.now) c.args.after) fallback in
    let same = sym c.in_ok-at.ensures in (
      subst (λ (after : Option Key). GoesOnInRest primary all (keys_behind after fallback)) same (goes-on primary all),
      subst (λ (after : Option Key). length (keys_behind after fallback) ≤ length all) same (omega arith),
    )

pub returns-in_default : goal.returns-in_default
returns-in_default c =
    let there = ap (λ (o : Option Key). next_entry key_cmp o c.args.fallback.now.state.keys) (sym (c.given_parts.ensures ∙ c.as_ref.ensures.value)) in
    let fallback = c.args.fallback.now.state in
    let at = c.loop-parts.at in
    c.loop-parts.invariant.0.copied (copied-none c.args.primary.now.state (keys_behind at fallback) (behind-last fallback at (there ∙ sym c.in_default.ensures.next)))

pub returns-then-not-is_copied : goal.returns-then-not-is_copied
returns-then-not-is_copied c =
    let there = ap (λ (o : Option Key). next_entry key_cmp o c.args.fallback.now.state.keys) (sym (c.given_parts.ensures ∙ c.as_ref.ensures.value)) in
    next-left c.args.primary.now.state c.args.fallback.now.state c.requires.sound (option_map (λ k. k.now) c.args.after) c.loop-parts.at
    (key_found c.in-Some.parts) c.in_ok-key.key (stored_of c.in-Some.stored.now) c.loop-parts.invariant.0 (there ∙ sym c.in-Some.ensures.next) c.in_ok-key.ensures
    (sym c.is_copied.ensures ∙ c.if-not-is_copied.true) c.in-Some.ensures.form

pub loop-parts-smaller : goal.loop-parts-smaller
loop-parts-smaller c =
    let there = ap (λ (o : Option Key). next_entry key_cmp o c.args.fallback.now.state.keys) (sym (c.given_parts.ensures ∙ c.as_ref.ensures.value)) in
    let next = there ∙ sym c.in-Some.ensures.next ∙ ap (λ (key : Key). Some (key, stored_of c.in-Some.stored.now)) (sym c.in_ok-key.ensures) in
    next-fewer c.args.fallback.now.state c.requires.sound c.loop-parts.at c.in_ok-key.key (stored_of c.in-Some.stored.now) next

pub returns-then-looked-most : goal.returns-then-looked-most
returns-then-looked-most c =
    let there = ap (λ (o : Option Key). next_entry key_cmp o c.args.fallback.now.state.keys) (sym (c.given_parts.ensures ∙ c.as_ref.ensures.value)) in
    next-passed c.args.primary.now.state c.args.fallback.now.state c.requires.sound (option_map (λ k. k.now) c.args.after) c.loop-parts.at
    (key_found c.in-Some.parts) c.in_ok-key.key (stored_of c.in-Some.stored.now) c.loop-parts.invariant.0 c.loop-parts.invariant.1 (there ∙ sym c.in-Some.ensures.next) c.in_ok-key.ensures
    (sym c.is_copied.ensures ∙ c.if-not-is_copied.false)

pub loop-parts-preserved : goal.loop-parts-preserved
loop-parts-preserved c =
    let there = ap (λ (o : Option Key). next_entry key_cmp o c.args.fallback.now.state.keys) (sym (c.given_parts.ensures ∙ c.as_ref.ensures.value)) in
    let next = there ∙ sym c.in-Some.ensures.next ∙ ap (λ (key : Key). Some (key, stored_of c.in-Some.stored.now)) (sym c.in_ok-key.ensures) in
    let fewer = next-fewer c.args.fallback.now.state c.requires.sound c.loop-parts.at c.in_ok-key.key (stored_of c.in-Some.stored.now) next in
    let within = c.loop-parts.invariant.1 in (
      next-copied c.args.primary.now.state c.args.fallback.now.state c.requires.sound (option_map (λ k. k.now) c.args.after) c.loop-parts.at
          c.in_ok-key.key c.in_ok-key.key (stored_of c.in-Some.stored.now) c.loop-parts.invariant.0 next refl
          (sym c.is_copied.ensures ∙ c.if-not-is_copied.false),
      omega (arith, fewer, within),
    )

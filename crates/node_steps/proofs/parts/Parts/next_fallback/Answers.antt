use Rattle.std.proofs.Common.{◌≡◌, ◌+◌, ◌<◌, ◌^◌, ◌&&◌, true, false, map, None, sym, ◌∙◌, ap, subst, arith}
use Rattle.std.specs.Prelude.{slice_get}
use Rattle.std.proofs.lemmas.Option.{slice_get_past}
use Rattle.node_steps.specs.Parts.{MayDivert}
use Rattle.node_steps.specs.Running.{vnode_of}
use Rattle.node_steps.specs.Steps.{fallback_ids}
use Rattle.node_steps.proofs.Lists.{get-below}
use Rattle.node_steps.proofs.Mapped.{same_test, other_test}
use Rattle.node_steps.proofs.Finding.{stands}
use Rattle.node_steps.proofs.Fallbacks.{are_free, no_epoch, not_free, no_primary, not_taken, to_fallback}
use Rattle.node_steps.proofs.parts.Parts.next_fallback.Goals as goal

pub returns-in_err-epoch : goal.returns-in_err-epoch
returns-in_err-epoch c =
    let own = c.args.own in
    let none : slice_get c.args.self.now.epochs.items own ≡ None = ap (λ epochs. slice_get epochs own) (sym c.deref-2.ensures.value)
    ∙ slice_get_past c.deref-2.result.now own c.in_err-epoch.ensures.lookup.3 in
    subst (λ r. MayDivert c.args.self.now own r) (sym c.from_residual-in_err-epoch.ensures)
    (λ fit. no_epoch c.args.self.now own none)

pub returns-then-site-own : goal.returns-then-site-own
returns-then-site-own c = λ fit.
    let own = c.args.own in
    let vnodes = map vnode_of c.args.self.now.sites.items in
    let route = stands c.deref.result.now c.args.self.now.routes.items own c.in_ok-site.field-0.now c.deref.ensures.value c.in_ok-site.ensures.lookup.3.0 c.in_ok-site.ensures.lookup.1 in
    not_free c.args.self.now own c.in_ok-site.field-0.now route
    (ap (λ b. b && are_free vnodes own c.args.self.now.workers.items) (other_test c.in_ok-site.field-0.now own c.if-site-own.true))

pub returns-then-not-is_free : goal.returns-then-not-is_free
returns-then-not-is_free c = λ fit.
    let own = c.args.own in
    let route = stands c.deref.result.now c.args.self.now.routes.items own c.in_ok-site.field-0.now c.deref.ensures.value c.in_ok-site.ensures.lookup.3.0 c.in_ok-site.ensures.lookup.1 in
    let free : are_free (map vnode_of c.args.self.now.sites.items) own c.args.self.now.workers.items ≡ false =
    (λ i. are_free (map vnode_of (sym c.as_slice.ensures.value i)) own (sym c.as_slice-2.ensures.value i)) ∙ sym c.is_free.ensures ∙ c.if-not-is_free.true in
    not_free c.args.self.now own c.in_ok-site.field-0.now route
    (λ i. same_test c.in_ok-site.field-0.now own c.if-site-own.false i && free i)

pub returns-in_err-primary : goal.returns-in_err-primary
returns-in_err-primary c =
    let own = c.args.own in
    let route = stands c.deref.result.now c.args.self.now.routes.items own c.in_ok-site.field-0.now c.deref.ensures.value c.in_ok-site.ensures.lookup.3.0 c.in_ok-site.ensures.lookup.1 in
    let none : slice_get c.args.self.now.sites.items own ≡ None = ap (λ sites. slice_get sites own) (sym c.deref-3.ensures.value)
    ∙ slice_get_past c.deref-3.result.now own c.in_err-primary.ensures.lookup.3 in
    subst (λ r. MayDivert c.args.self.now own r) (sym c.from_residual-in_err-primary.ensures)
    (λ fit. no_primary c.args.self.now own c.in_ok-site.field-0.now route none)

pub returns-in-Some : goal.returns-in-Some
returns-in-Some c =
    let own = c.args.own in
    let route = stands c.deref.result.now c.args.self.now.routes.items own c.in_ok-site.field-0.now c.deref.ensures.value c.in_ok-site.ensures.lookup.3.0 c.in_ok-site.ensures.lookup.1 in
    let behind = stands c.deref-2.result.now c.args.self.now.epochs.items own c.in_ok-epoch.field-0.now c.deref-2.ensures.value c.in_ok-epoch.ensures.lookup.3.0 c.in_ok-epoch.ensures.lookup.1 in
    let there = stands c.deref-3.result.now c.args.self.now.sites.items own c.in_ok-primary.primary.now c.deref-3.ensures.value
    c.in_ok-primary.ensures.lookup.3.0 c.in_ok-primary.ensures.lookup.1 in
    let free : are_free (map vnode_of c.args.self.now.sites.items) own c.args.self.now.workers.items ≡ true =
    (λ i. are_free (map vnode_of (sym c.as_slice.ensures.value i)) own (sym c.as_slice-2.ensures.value i)) ∙ sym c.is_free.ensures ∙ c.if-not-is_free.false in
    let below = get-below c.args.self.now.routes.items own c.in_ok-site.field-0.now route in
    let hand = c.in-Some.hand in
    let named : c.id.result ≡ hand.value.state.vnode = c.id.ensures ∙ ap (λ h. h.state.vnode) c.deref-in-Some.ensures in
    let fits : hand.value.state.vnode + fallback_ids < 2 ^ 64 → c.saturating_add.result ≡ hand.value.state.vnode + fallback_ids = λ small.
    omega (arith, c.saturating_add.ensures, named, small) in (
      below,
      to_fallback c.args.self.now own c.in_ok-site.field-0.now c.in_ok-epoch.field-0.now c.in_ok-primary.primary.now route behind
          (λ i. same_test c.in_ok-site.field-0.now own c.if-site-own.false i && free i) there hand c.in-Some.is c.saturating_add.result fits,
    )

pub returns-in-None : goal.returns-in-None
returns-in-None c =
    let own = c.args.own in
    let route = stands c.deref.result.now c.args.self.now.routes.items own c.in_ok-site.field-0.now c.deref.ensures.value c.in_ok-site.ensures.lookup.3.0 c.in_ok-site.ensures.lookup.1 in
    let behind = stands c.deref-2.result.now c.args.self.now.epochs.items own c.in_ok-epoch.field-0.now c.deref-2.ensures.value c.in_ok-epoch.ensures.lookup.3.0 c.in_ok-epoch.ensures.lookup.1 in
    let there = stands c.deref-3.result.now c.args.self.now.sites.items own c.in_ok-primary.primary.now c.deref-3.ensures.value
    c.in_ok-primary.ensures.lookup.3.0 c.in_ok-primary.ensures.lookup.1 in
    let free : are_free (map vnode_of c.args.self.now.sites.items) own c.args.self.now.workers.items ≡ true =
    (λ i. are_free (map vnode_of (sym c.as_slice.ensures.value i)) own (sym c.as_slice-2.ensures.value i)) ∙ sym c.is_free.ensures ∙ c.if-not-is_free.false in
    not_taken c.args.self.now own c.in_ok-site.field-0.now c.in_ok-epoch.field-0.now c.in_ok-primary.primary.now route behind
    (λ i. same_test c.in_ok-site.field-0.now own c.if-site-own.false i && free i) there c.in-None.is

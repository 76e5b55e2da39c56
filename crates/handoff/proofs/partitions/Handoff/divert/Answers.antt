use Rattle.std.proofs.Common.{◌≡◌, ◌<◌, ◌+◌, ◌^◌, ◌∙◌, refl, ap, sym, subst, length, arith, inr}
use Rattle.std.specs.Prelude.{Option, Some, IfSome, slice_get, slice_set}
use Rattle.std.proofs.lemmas.List.{length-set}
use Rattle.rw_gate.specs.Views.{GateId}
use Rattle.vnode_core.specs.Plans.{View}
use Rattle.handoff.specs.declared.gates.Start.{Start}
use Rattle.handoff.specs.Partitions.{HandoffView, IsFallback}
use Rattle.handoff.specs.Started.{IsStartOf}
use Rattle.handoff.proofs.Opened.{got, fallbacks_get, fallbacks_set, next-fallback, next-diverted, some-of}
use Rattle.handoff.proofs.Started.{starts_set}
use Rattle.handoff.proofs.partitions.Handoff.divert.Goals as goal

pub invariant_of-self : goal.invariant_of-self
invariant_of-self c =
    let all = c.self.inside.fallbacks.items in
    let at = c.from-at.ensures in
    let asked = subst (λ n. c.args.index < 2 ^ n.index_bits) (sym c.self.view_is) c.requires in
    let within : c.from-at.result < length all = subst (λ n. c.from-at.result < n) (sym c.self.invariant.3) (subst (λ n. n < 2 ^ c.self.inside.ring) (sym at) asked) in
    let stands = got all c.from-at.result c.index.result.now within c.index.ensures in
    let was = fallbacks_get c.self.inside.run 0 c.from-at.result all c.index.result.now c.self.invariant.2 stands in
    let here : c.args.index ≡ 0 + c.from-at.result = omega (arith, at) in
    let next = c.in-Some.next in
    let within_gates : c.from-at.result < length c.self.inside.gates.items = subst (λ n. c.from-at.result < n) (sym c.self.invariant.1) (subst (λ n. n < 2 ^ c.self.inside.ring) (sym at) asked) in
    let primary = got c.self.inside.gates.items c.from-at.result c.index-2.result.now within_gates c.index-2.ensures in
    let one = subst (λ n. IsFallback c.self.inside.run n c.in_ok-fallback.fallback) here
    (next-fallback c.self.inside.run c.args.index next.number next.last_epoch c.index.result.now next.before c.in_ok-fallback.fallback
    (subst (λ n. IfSome c.index.result.now (IsFallback c.self.inside.run n)) (sym here) was)
    c.in-Some.ensures.number c.in-Some.ensures.begins c.in_ok-fallback.ensures.number c.in_ok-fallback.ensures.before c.in_ok-fallback.ensures.made c.in_ok-fallback.ensures.limits) in (
      c.self.invariant.0,
      c.self.invariant.1,
      fallbacks_set c.self.inside.run 0 c.from-at.result all (Some c.in_ok-fallback.fallback) c.self.invariant.2 one,
      length-set all c.from-at.result (Some c.in_ok-fallback.fallback) ∙ c.self.invariant.3,
      starts_set c.self.inside.gates.items all c.from-at.result c.index-2.result.now (Some c.in_ok-fallback.fallback) c.self.invariant.4 primary
          (subst (λ (o : Option Start). IfSome o (IsStartOf c.index-2.result.now)) (sym c.in_ok-fallback.ensures.start) c.look_start-start.ensures),
    )

pub returns-in_default-clause-fault : goal.returns-in_default-clause-fault
returns-in_default-clause-fault c =
    let all = c.self.inside.fallbacks.items in
    let at = c.from-at.ensures in
    let asked = subst (λ n. c.args.index < 2 ^ n.index_bits) (sym c.self.view_is) c.requires in
    let within : c.from-at.result < length all = subst (λ n. c.from-at.result < n) (sym c.self.invariant.3) (subst (λ n. n < 2 ^ c.self.inside.ring) (sym at) asked) in
    let some = some-of c.index.result.now c.in_default.ensures.none in
    let stands = got all c.from-at.result c.index.result.now within c.index.ensures ∙ ap (λ o. Some o) some.1 in
    rw (← c.self.view_is) (inr (refl, some.0, subst (λ n. slice_get all n ≡ Some (Some some.0)) at stands))

pub returns-clause-ok : goal.returns-clause-ok
returns-clause-ok c =
    let all = c.self.inside.fallbacks.items in
    let at = c.from-at.ensures in
    let asked = subst (λ n. c.args.index < 2 ^ n.index_bits) (sym c.self.view_is) c.requires in
    let within : c.from-at.result < length all = subst (λ n. c.from-at.result < n) (sym c.self.invariant.3) (subst (λ n. n < 2 ^ c.self.inside.ring) (sym at) asked) in
    let stands = got all c.from-at.result c.index.result.now within c.index.ensures in
    let stood = subst (λ n. slice_get all n ≡ Some c.index.result.now) at stands in
    let was = fallbacks_get c.self.inside.run 0 c.from-at.result all c.index.result.now c.self.invariant.2 stands in
    let here : 0 + c.from-at.result ≡ c.args.index = omega (arith, at) in
    let next = c.in-Some.next in
    let within_gates : c.from-at.result < length c.self.inside.gates.items = subst (λ n. c.from-at.result < n) (sym c.self.invariant.1) (subst (λ n. n < 2 ^ c.self.inside.ring) (sym at) asked) in
    let primary = subst (λ n. slice_get c.self.inside.gates.items n ≡ Some c.index-2.result.now) at (got c.self.inside.gates.items c.from-at.result c.index-2.result.now within_gates c.index-2.ensures) in
    let start = subst (λ (o : Option Start). IfSome o (IsStartOf c.index-2.result.now)) (sym c.in_ok-fallback.ensures.start) c.look_start-start.ensures in
    let old : HandoffView = record { index_bits = c.self.inside.ring; run = c.self.inside.run; gates = c.self.inside.gates.items; fallbacks = all } in
    let new : HandoffView = record { index_bits = c.self.inside.ring; run = c.self.inside.run; gates = c.self.inside.gates.items; fallbacks = slice_set all c.from-at.result (Some c.in_ok-fallback.fallback) } in
    rw (← c.self.view_is)
    (next-diverted c.args.index next.number next.last_epoch old new c.index.result.now next.before c.in_ok-fallback.fallback
    (subst (λ n. IfSome c.index.result.now (IsFallback c.self.inside.run n)) here was)
    c.in-Some.ensures.number c.in-Some.ensures.begins c.in_ok-fallback.ensures.number c.in_ok-fallback.ensures.before c.in_ok-fallback.ensures.made c.in_ok-fallback.ensures.limits stood
    (λ other there. let same : c.index-2.result.now ≡ other = cc (sym primary ∙ there) in subst (λ (g : GateId View). IfSome c.in_ok-fallback.fallback.start (IsStartOf g)) same start)
    (ap (λ n. record old { fallbacks = slice_set all n (Some c.in_ok-fallback.fallback) }) at))

use Rattle.std.proofs.Common.{◌∙◌, sym, ap, subst}
use Rattle.std.specs.Prelude.{IfOk, None, is_some}
use Rattle.node_steps.specs.Hands.{HandView}
use Rattle.node_steps.specs.Parts.{IsFit}
use Rattle.node_steps.specs.Running.{ask_of, phase_of, vnode_of, Turns}
use Rattle.node_steps.specs.Steps.{Looks}
use Rattle.node_steps.specs.Turning.{HoldsTo}
use Rattle.node_steps.specs.World.{Phase, Holding}
use Rattle.node_steps.proofs.Sighting.{holds}
use Rattle.node_steps.proofs.Stepping.{ok_then}
use Rattle.node_steps.proofs.looks.look.Goals as goal
use Rattle.vnode_machine.proofs.Tests.{none-from}

pub returns-in-Copying-clause-ok : goal.returns-in-Copying-clause-ok
returns-in-Copying-clause-ok c = rw (c.in-Copying.is) c.look.ensures.ok

pub returns-else-has_plan-clause-ok : goal.returns-else-has_plan-clause-ok
returns-else-has_plan-clause-ok c =
    let hand = c.in-Holding.hand.value in
    let ask = ask_of c.in-Holding.call in
    let at = vnode_of c.args.site.now in
    let none = none-from hand.plan (ap (λ (h : HandView). is_some h.plan) (sym c.deref-in-Holding.ensures) ∙ sym c.has_plan.ensures ∙ c.if-has_plan.false) in
    subst (λ (phase : Phase). IfOk c.look_held.result (λ r. IsFit at.word phase → Turns Looks at phase at (phase_of r.0) r.1))
    (sym (ap phase_of c.in-Holding.is ∙ ap (λ plan. Holding c.in-Holding.index ask hand.state plan) none))
    (ok_then {P = λ r. HoldsTo c.args.site.now.own c.in-Holding.index ask hand.state (phase_of r.0) r.1}
    {Q = λ r. IsFit at.word (Holding c.in-Holding.index ask hand.state None) → Turns Looks at (Holding c.in-Holding.index ask hand.state None) at (phase_of r.0) r.1}
    c.look_held.result c.look_held.ensures.ok
    (λ r h fit. holds c.args.site.now c.in-Holding.index ask hand.state (phase_of r.0) r.1 h))

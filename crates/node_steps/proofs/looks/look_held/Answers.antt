use Rattle.std.proofs.Common.{sym, ◌∙◌, ap}
use Rattle.std.specs.Prelude.{is_some}
use Rattle.node_steps.specs.Hands.{HandView}
use Rattle.node_steps.specs.Turning.{HoldsTo, LooksTo}
use Rattle.node_steps.specs.Running.{ask_of, phase_of}
use Rattle.node_steps.proofs.Sighting.{holds_open}
use Rattle.node_steps.proofs.Stepping.{ok_then}
use Rattle.node_steps.proofs.looks.look_held.Goals as goal

pub returns-clause-ok : goal.returns-clause-ok
returns-clause-ok c =
    let hand = c.args.hand.value.state in
    ok_then {P = λ r. LooksTo c.args.index (ask_of c.args.call) hand (phase_of r.0) r.1}
    {Q = λ r. HoldsTo c.args.own c.args.index (ask_of c.args.call) hand (phase_of r.0) r.1}
    c.look_in_hand.result c.look_in_hand.ensures.ok
    (λ r h. holds_open c.args.own c.args.index (ask_of c.args.call) hand (phase_of r.0) r.1
    (ap (λ (h : HandView). is_some h.state.closed) (sym c.deref.ensures) ∙ sym c.is_closed.ensures ∙ c.if-is_closed.false) h)

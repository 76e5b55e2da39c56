use Rattle.std.proofs.Common.{sym, ◌∙◌, ap}
use Rattle.std.specs.Prelude.{◌≡◌, None}
use Rattle.node_steps.specs.CopyLooks.{FindsTo, SyncsTo}
use Rattle.node_steps.specs.World.{Copying, CopyInside, CopyTaken}
use Rattle.node_steps.specs.Steps.{Looks}
use Rattle.node_steps.specs.Hands.{HandView}
use Rattle.node_steps.specs.Parts.{IsFit}
use Rattle.node_steps.specs.Running.{phase_of, vnode_of, Turns}
use Rattle.node_steps.proofs.Looking.{in_place}
use Rattle.node_steps.proofs.Syncing.{finds, syncs}
use Rattle.node_steps.proofs.Stepping.{ok_then}
use Rattle.node_steps.proofs.copier.look.Goals as goal

pub returns-in-Taken-clause-ok : goal.returns-in-Taken-clause-ok
returns-in-Taken-clause-ok c =
    let hand = c.in-Taken.hand.value.state in
    let clock = c.in-Taken.clock.value in
    rw (c.in-Taken.is)
    (ok_then {P = λ r. hand.closed ≡ None → SyncsTo c.args.own c.args.from c.args.key.value clock hand (phase_of r.0) r.1}
    {Q = λ r. IsFit (vnode_of c.args.site.now).word (Copying c.args.own c.args.from c.args.key.value (CopyTaken clock hand None))
    → Turns Looks (vnode_of c.args.site.now) (Copying c.args.own c.args.from c.args.key.value (CopyTaken clock hand None)) (vnode_of c.args.site.now) (phase_of r.0) r.1}
    c.sync.result c.sync.ensures.ok
    (λ r h fit. syncs c.args.site.now c.args.own c.args.from c.args.key.value clock hand (phase_of r.0) r.1 (h fit.opened)))

pub returns-in-Some-clause-ok : goal.returns-in-Some-clause-ok
returns-in-Some-clause-ok c =
    let at = vnode_of c.args.site.now in
    let place = in_place c.args.site.now c.in-Some.hand c.in-Some.is ∙ ap (λ (h : HandView). h.state) (sym c.deref.ensures) in
    rw (c.in-Inside.is)
    (ok_then {P = λ r. FindsTo c.deref.result.now.state c.args.own c.args.from c.args.key.value (phase_of r.0) r.1}
    {Q = λ r. IsFit at.word (Copying c.args.own c.args.from c.args.key.value CopyInside)
    → Turns Looks at (Copying c.args.own c.args.from c.args.key.value CopyInside) at (phase_of r.0) r.1}
    c.find.result c.find.ensures.ok
    (λ r h fit. finds c.args.site.now c.args.own c.args.from c.args.key.value c.deref.result.now.state (phase_of r.0) r.1 place h))

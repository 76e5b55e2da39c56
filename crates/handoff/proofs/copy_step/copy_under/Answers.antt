use Rattle.std.proofs.Common.{◌≡◌, ◌∙◌, Result, Ok, Err, IfErr, IsErrAnd, sym, subst}
use Rattle.handoff.specs.Sights.{IsOfVnode}
use Rattle.handoff.specs.Steps.{IsStopOf}
use Rattle.handoff.proofs.Copies.{later-steps}
use Rattle.handoff.proofs.Showing.{shown, shown-sound}
use Rattle.handoff.proofs.copy_step.copy_under.Goals as goal

pub look_for-requires-clause-sound : goal.look_for-requires-clause-sound
look_for-requires-clause-sound g c =
    shown-sound c.args.reader.now c.in_ok-from.from.now (subst IsOfVnode (sym c.requires.reader) c.requires.vnode) c.in_ok-from.ensures.replay c.in_ok-from.ensures.shown

pub copy_to-step-requires-clause-shown : goal.copy_to-step-requires-clause-shown
copy_to-step-requires-clause-shown g c =
    shown c.args.reader.now c.look.new.pass c.in_ok-from.from.now c.look.ensures.replay (c.look.ensures.gate ∙ c.requires.theirs ∙ sym c.requires.reader) c.in_ok-from.ensures.seen c.in_ok-from.ensures.shown

pub returns-clause-step : goal.returns-clause-step
returns-clause-step g c =
    later-steps c.args.partition.now.fallback.now.diversion c.args.mine.now c.look_for.new.mine c.copy_to-step.new.mine c.look.new.pass c.copy_to-step.result
    c.look_for.ensures.more c.look_for.ensures.own c.copy_to-step.ensures.step

-- what holds of one error, where it is that one
if-err-one : {T E : Type 0} (r : Result T E) (P : E → Type 0) (x : E) → IsErrAnd r (λ e. e ≡ x) → P x → IfErr r P
if-err-one (Ok y) P x is holds = absurd is
if-err-one (Err e) P x is holds = subst P (sym is) holds

pub returns-in_err-look_for-clause-stop : goal.returns-in_err-look_for-clause-stop
returns-in_err-look_for-clause-stop g c =
    if-err-one c.from_residual-in_err-look_for.result (IsStopOf c.look.new.pass) c.in_err-look_for.field-0.0 c.from_residual-in_err-look_for.ensures.1 (c.in_err-look_for.ensures.stop c.look.new.pass)

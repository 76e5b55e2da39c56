use Rattle.std.proofs.Common.{IfOk, subst}
use Rattle.node_steps.specs.Asked.{step_of}
use Rattle.node_steps.specs.Parts.{TakesFitStep, TakesRunStep, world_in}
use Rattle.node_steps.specs.Kept.{FollowsInRun}
use Rattle.node_steps.proofs.Fitting.{are_fit}
use Rattle.node_steps.proofs.Following.{follows, still_kept}
use Rattle.node_steps.proofs.Stepping.{ok_then}
use Rattle.node_steps.proofs.world.World.step.Goals as goal

pub invariant_of-self : goal.invariant_of-self
invariant_of-self c =
    still_kept c.self.inside.parts c.step.new.self (step_of c.args.step) c.step.result c.self.invariant c.step.ensures.ok c.step.ensures.err

pub returns-clause-step : goal.returns-clause-step
returns-clause-step c =
    subst (λ w. IfOk c.step.result (λ outcome. TakesRunStep w (step_of c.args.step) outcome (world_in c.step.new.self))) c.self.view_is
    (ok_then {P = λ outcome. TakesFitStep c.self.inside.parts (step_of c.args.step) outcome c.step.new.self}
    {Q = λ outcome. TakesRunStep (world_in c.self.inside.parts) (step_of c.args.step) outcome (world_in c.step.new.self)}
    c.step.result c.step.ensures.ok (λ outcome t. t (are_fit c.self.inside.parts c.self.invariant)))

pub returns-clause-schedule : goal.returns-clause-schedule
returns-clause-schedule c =
    subst (λ w. IfOk c.step.result (λ outcome. FollowsInRun w (step_of c.args.step) outcome (world_in c.step.new.self))) c.self.view_is
    (ok_then {P = λ outcome. TakesFitStep c.self.inside.parts (step_of c.args.step) outcome c.step.new.self}
    {Q = λ outcome. FollowsInRun (world_in c.self.inside.parts) (step_of c.args.step) outcome (world_in c.step.new.self)}
    c.step.result c.step.ensures.ok
    (λ outcome t. follows (world_in c.self.inside.parts) (step_of c.args.step) outcome (world_in c.step.new.self) (t (are_fit c.self.inside.parts c.self.invariant))))

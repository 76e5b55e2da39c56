use Rattle.node_steps.specs.Asked.{step_by}
use Rattle.node_steps.specs.Closings.{TurnsAt}
use Rattle.node_steps.specs.Parts.{TakesFitStep}
use Rattle.node_steps.proofs.Stepping.{ok_then, not_possible}
use Rattle.node_steps.proofs.Taking.{taken}
use Rattle.node_steps.proofs.parts.Parts.act.Goals as goal

pub returns-in-Some-clause-ok : goal.returns-in-Some-clause-ok
returns-in-Some-clause-ok c =
    ok_then {P = TurnsAt c.args.act c.in-Some.place c.in-Some.index c.args.self.now c.turn_at.new.self}
    {Q = λ outcome. TakesFitStep c.args.self.now (step_by c.args.worker c.args.act) outcome c.turn_at.new.self}
    c.turn_at.result c.turn_at.ensures.ok
    (λ outcome t. taken c.args.self.now c.turn_at.new.self c.args.worker c.in-Some.place c.in-Some.index c.args.act outcome c.in-Some.ensures t)

pub returns-in-None-clause-ok : goal.returns-in-None-clause-ok
returns-in-None-clause-ok c = λ fit.
    not_possible c.args.self.now.sites.items c.args.self.now.routes.items c.args.self.now.epochs.items c.args.self.now.workers.items (step_by c.args.worker c.args.act)
    (c.in-None.ensures c.args.act)

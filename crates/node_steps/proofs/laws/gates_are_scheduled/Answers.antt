use Rattle.node_steps.proofs.Gates.{runs_are_scheduled}
use Rattle.node_steps.proofs.laws.gates_are_scheduled.Goals as goal

pub returns : goal.returns
returns c = runs_are_scheduled

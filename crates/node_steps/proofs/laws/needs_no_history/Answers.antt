use Rattle.node_steps.specs.Schedules.{world_after}
use Rattle.node_steps.proofs.Scheduled.{orderly}
use Rattle.node_steps.proofs.ErasedSteps.{outcome_erased, after_erased}
use Rattle.node_steps.proofs.laws.needs_no_history.Goals as goal

pub returns : goal.returns
returns c = λ start is schedule step. record {
  outcome_is = outcome_erased (world_after start schedule) (orderly start is schedule) step;
  world_is = after_erased (world_after start schedule) (orderly start is schedule) step;
}

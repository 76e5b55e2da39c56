use Rattle.std.proofs.Common.{drop}
use Rattle.node_steps.proofs.RunsOn.{HasTaken}
use Rattle.node_steps.proofs.world.World.run.Given as goal

abbrev pub invariant-loop-step : goal.invariant-loop-step
invariant-loop-step l = HasTaken l.fn.self l.fn.steps (drop l.step-index l.fn.steps) l.outcomes.items l.self

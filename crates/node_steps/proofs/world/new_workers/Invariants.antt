use Rattle.std.proofs.Common.{◌≡◌}
use Rattle.std.specs.Prelude.{replicate}
use Rattle.node_steps.specs.declared.phase.Phase.TheVariants.{Idle}
use Rattle.node_steps.proofs.world.new_workers.Given as goal

abbrev pub invariant-loop : goal.invariant-loop
invariant-loop l = l.phases.items ≡ replicate l.counter Idle

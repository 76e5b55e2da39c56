use Rattle.std.proofs.Common.{◌≡◌}
use Rattle.std.specs.Prelude.{replicate}
use Rattle.node_steps.proofs.world.new_epochs.Given as goal

abbrev pub invariant-loop : goal.invariant-loop
invariant-loop l = l.epochs.items ≡ replicate l.counter 0

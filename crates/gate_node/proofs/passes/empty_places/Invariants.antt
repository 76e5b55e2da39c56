use Rattle.std.proofs.Common.{◌≡◌, length}
use Rattle.handoff.specs.Partitions.{AreNone}
use Rattle.gate_node.proofs.passes.empty_places.Given as goal

abbrev pub invariant-loop : goal.invariant-loop
invariant-loop l = AreNone l.places.items × (length l.places.items ≡ l.counter)

use Rattle.std.proofs.Common.{◌≡◌, length}
use Rattle.handoff.specs.Partitions.{AreNone}
use Rattle.handoff.proofs.gates.no_fallbacks.Given as goal

abbrev pub invariant-loop : goal.invariant-loop
invariant-loop l = AreNone l.fallbacks.items × (length l.fallbacks.items ≡ l.counter)

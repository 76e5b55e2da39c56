use Rattle.std.proofs.Common.{◌≡◌, length}
use Rattle.handoff.specs.Partitions.{AreMadeNew}
use Rattle.handoff.proofs.gates.new_gates.Given as goal

abbrev pub invariant-loop-index : goal.invariant-loop-index
invariant-loop-index l = AreMadeNew l.run 0 l.gates.items × (length l.gates.items ≡ l.index)

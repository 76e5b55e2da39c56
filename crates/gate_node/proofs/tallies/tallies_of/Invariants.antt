use Rattle.std.proofs.Common.{take}
use Rattle.gate_node.specs.OneHistory.{ShareHistories}
use Rattle.gate_node.proofs.tallies.tallies_of.Given as goal

abbrev pub invariant-loop-gate : goal.invariant-loop-gate
invariant-loop-gate g l = ShareHistories g.H.HasPasses.sights (take l.gate-index l.gate-items) l.callers l.tallies.items l.count_all

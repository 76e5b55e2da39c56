use Rattle.std.proofs.Common.{take}
use Rattle.gate_node.specs.OneHistory.{AllHaveSeen}
use Rattle.gate_node.proofs.tallies.are_behind.Given as goal

abbrev pub invariant-loop-caller : goal.invariant-loop-caller
invariant-loop-caller g l = AllHaveSeen g.H.HasPasses.sights l.index l.other.prefix (take l.caller-index l.callers)

use Rattle.std.proofs.Common.{◌≡◌, map, take}
use Rattle.std.specs.Prelude.{All}
use Rattle.gate_node.specs.Asked.{Sight}
use Rattle.gate_node.specs.Passes.{IsUnused}
use Rattle.gate_node.proofs.passes.new_passes.Given as goal

abbrev pub invariant-loop-gate : goal.invariant-loop-gate
invariant-loop-gate l = (map (λ (s : Sight). s.gate) l.passes.items ≡ take l.gate-index l.gates) × All IsUnused l.passes.items

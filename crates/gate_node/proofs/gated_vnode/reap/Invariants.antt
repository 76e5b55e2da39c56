use Rattle.std.proofs.Common.{◌-◌, ◌≡◌, ◌≤◌}
use Rattle.gate_node.specs.Asked.{Reaps}
use Rattle.gate_node.proofs.gated_vnode.reap.Given as goal

abbrev pub invariant-loop-count : goal.invariant-loop-count
invariant-loop-count g l = (l.pass.gate ≡ l.gate) × (l.count ≤ l.budget) × Reaps l.count l.initial.pass l.pass

abbrev pub decreases-loop-count : goal.decreases-loop-count
decreases-loop-count g l = l.budget - l.count

use Rattle.std.proofs.Common.{◌≡◌}
use Rattle.vnode_tests.proofs.gates.steps.writes.Given as goal

-- the pass and the right stay the gate's
abbrev pub invariant-loop-act : goal.invariant-loop-act
invariant-loop-act g l = (l.pass.gate ≡ l.gate) × (l.right.gate ≡ l.gate)

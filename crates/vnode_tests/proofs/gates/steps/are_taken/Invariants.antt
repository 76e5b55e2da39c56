use Rattle.std.proofs.Common.{◌≡◌}
use Rattle.vnode_tests.proofs.gates.steps.are_taken.Given as goal

-- the passes stay the gate's
abbrev pub invariant-loop-step : goal.invariant-loop-step
invariant-loop-step g l = (l.ann.gate ≡ l.gate) × (l.bob.gate ≡ l.gate)

use Rattle.std.proofs.Common.{◌≡◌}
use Rattle.vnode_tests.proofs.gates.threads.makes_rounds.Given as goal

-- the pass stays one of the gate's
abbrev pub invariant-loop-round : goal.invariant-loop-round
invariant-loop-round g l = l.pass.gate ≡ l.gate

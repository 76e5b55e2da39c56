use Rattle.std.proofs.Common.{◌≡◌}
use Rattle.vnode_tests.proofs.gates.threads.makes_round.Given as goal

-- the pass stays one of the gate's
abbrev pub invariant-loop-all : goal.invariant-loop-all
invariant-loop-all g l = l.pass.gate ≡ l.gate

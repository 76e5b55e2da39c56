use Rattle.gate_node.specs.Passes.{ArePassesOf}
use Rattle.worker_tests.proofs.returns.take_turns.Given as goal

abbrev pub invariant-loop-turn : goal.invariant-loop-turn
invariant-loop-turn g l = ArePassesOf l.stage.shared l.stage.passes

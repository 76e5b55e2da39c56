use Rattle.std.proofs.Common.{◌∙◌}
use Rattle.std.proofs.lemmas.List.{take_all}
use Rattle.gate_node.proofs.passes.new_passes.Goals as goal

pub returns-clause-gates : goal.returns-clause-gates
returns-clause-gates c = c.loop-gate.invariant.0 ∙ take_all c.loop-gate.gate-index c.args.gates.now c.loop-gate-test.false

pub returns-clause-new : goal.returns-clause-new
returns-clause-new c = c.loop-gate.invariant.1

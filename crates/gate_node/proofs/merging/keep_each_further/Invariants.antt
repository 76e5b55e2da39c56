use Rattle.gate_node.proofs.Further.{AreMerged}
use Rattle.gate_node.proofs.merging.keep_each_further.Given as goal

abbrev pub invariant-loop-pass : goal.invariant-loop-pass
invariant-loop-pass l = AreMerged l.kept.items l.left.items l.initial.kept.items l.fn.others.items

abbrev pub decreases-loop-pass : goal.decreases-loop-pass
decreases-loop-pass l = goal.left-loop-pass l

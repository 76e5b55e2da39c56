use Rattle.node_session.specs.PlainNodes.{AreNew, AreOpen, states_of}
use Rattle.node_session.proofs.plain_node.new_vnodes.Given as goal

abbrev pub invariant-loop-index : goal.invariant-loop-index
invariant-loop-index l = AreNew l.run l.index (states_of l.vnodes.items) × AreOpen l.vnodes.items

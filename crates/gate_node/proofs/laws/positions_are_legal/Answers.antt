use Rattle.gate_node.proofs.Legal.{position-is-legal}
use Rattle.gate_node.proofs.laws.positions_are_legal.Goals as goal

pub returns : goal.returns
returns c = position-is-legal

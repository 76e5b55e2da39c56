use Rattle.gate_node.proofs.InHistories.{step_answers}
use Rattle.gate_node.proofs.laws.replies_are_at_positions.Goals as goal

pub returns : goal.returns
returns c = step_answers

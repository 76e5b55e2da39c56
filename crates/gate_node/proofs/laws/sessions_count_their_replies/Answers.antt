use Rattle.gate_node.proofs.Growing.{run-counts}
use Rattle.gate_node.proofs.laws.sessions_count_their_replies.Goals as goal

pub returns : goal.returns
returns c = run-counts

use Rattle.gate_node.proofs.Keeping.{run-keeps}
use Rattle.gate_node.proofs.laws.sessions_keep_their_gates.Goals as goal

pub returns : goal.returns
returns c = run-keeps

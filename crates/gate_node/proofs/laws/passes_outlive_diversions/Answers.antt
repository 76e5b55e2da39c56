use Rattle.gate_node.proofs.Fitting.{outlive_diversion}
use Rattle.gate_node.proofs.laws.passes_outlive_diversions.Goals as goal

pub returns : goal.returns
returns c = outlive_diversion

use Rattle.gate_node.proofs.Registers.{run_is_register, end_is_register, stop_is_register}
use Rattle.gate_node.proofs.laws.gate_node_is_register.Goals as goal

pub returns : goal.returns
returns c = record { run = run_is_register; ended = end_is_register; stopped = stop_is_register }

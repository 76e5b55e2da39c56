use Rattle.node_session.proofs.RegisterLaw.{runs_are_registers, ends_are_registers, stops_are_registers}
use Rattle.node_session.proofs.laws.plain_node_is_register.Goals as goal

pub returns : goal.returns
returns c = record {
  run = λ run index_bits budget is. runs_are_registers run index_bits budget is;
  ended = λ run index_bits budget is. ends_are_registers run index_bits budget is;
  stopped = λ run index_bits budget is. stops_are_registers run index_bits budget is;
}

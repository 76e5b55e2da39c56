use Rattle.gate_node.proofs.Plain.{plain_step, tallies_plain}
use Rattle.gate_node.proofs.laws.plain_replies_are_legal.Goals as goal

pub returns : goal.returns
returns c = record { tallies = tallies_plain; steps = plain_step }

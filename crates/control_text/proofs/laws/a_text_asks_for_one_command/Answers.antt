use Rattle.control_text.proofs.OneCommand.{one_command}
use Rattle.control_text.proofs.laws.a_text_asks_for_one_command.Goals as goal

pub returns : goal.returns
returns c = one_command

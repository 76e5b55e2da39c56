use Rattle.control_text.proofs.OneLine.{answer_line}
use Rattle.control_text.proofs.laws.an_answer_is_one_line.Goals as goal

pub returns : goal.returns
returns c = answer_line

use Rattle.schedule_text.proofs.OneStep.{one_step}
use Rattle.schedule_text.proofs.laws.a_line_asks_for_one_step.Goals as goal

pub returns : goal.returns
returns c = one_step

use Rattle.copy_laws.proofs.JointAnswers.{courses_answer_gets, courses_reap_dead}
use Rattle.copy_laws.proofs.JointUpdates.{courses_answer_puts, courses_answer_dels}
use Rattle.copy_laws.proofs.laws.primary_answers_as_register.Goals as goal

pub returns : goal.returns
returns c = record { gets = courses_answer_gets; reaps = courses_reap_dead; puts = courses_answer_puts; deletes = courses_answer_dels }

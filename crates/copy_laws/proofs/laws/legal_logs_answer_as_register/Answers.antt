use Rattle.copy_laws.proofs.Held.{logs_hold_defined}
use Rattle.copy_laws.proofs.JointUpdates.{step_is_of_logs}
use Rattle.copy_laws.proofs.LogBefore.{logs_were_legal}
use Rattle.copy_laws.proofs.LogNext.{logs_go_on}
use Rattle.copy_laws.proofs.laws.legal_logs_answer_as_register.Goals as goal

pub returns : goal.returns
returns c = record { steps = step_is_of_logs; held = logs_hold_defined; before = logs_were_legal; goes_on = logs_go_on }

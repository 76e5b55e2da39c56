use Rattle.std.proofs.Common.{refl, arith}
use Rattle.schedule_text.proofs.LineOperands.{divert_refused}
use Rattle.schedule_text.proofs.operands.read_divert.Goals as goal

pub returns-in-Some : goal.returns-in-Some
returns-in-Some c = λ workers. (refl, record { whole = c.in-Some.ensures; fits = omega arith })

pub returns-in-None : goal.returns-in-None
returns-in-None c = λ workers. divert_refused workers c.args.text.now c.in-None.ensures

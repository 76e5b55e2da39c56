use Rattle.schedule_text.proofs.LineOperands.{ask_refused}
use Rattle.schedule_text.proofs.operands.read_ask.Goals as goal

pub returns-in-Err : goal.returns-in-Err
returns-in-Err c = ask_refused c.args.workers c.args.text.now c.in-Err.fault c.in-Err.ensures

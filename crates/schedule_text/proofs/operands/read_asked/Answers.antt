use Rattle.schedule_text.proofs.LineOperands.{number_is, asked_refused}
use Rattle.schedule_text.proofs.operands.read_asked.Goals as goal

pub returns-in_default-read_worker : goal.returns-in_default-read_worker
returns-in_default-read_worker c = λ worker request asks.
    c.in_default-read_worker.ensures worker asks.is_worker
    (number_is c.args.workers worker c.args.text.now c.in-Some.number.now c.in-Some.digits.now request c.ranges.workers.fits c.in-Some.ensures asks)

pub returns-in-Err : goal.returns-in-Err
returns-in-Err c =
    asked_refused c.args.workers c.in-Some-read_worker.worker c.args.text.now c.in-Some.number.now c.in-Some.digits.now c.in-Err.fault
    c.ranges.workers.fits c.in-Some.ensures c.in-Some-read_worker.ensures.0 c.in-Some-read_worker.ensures.1 c.in-Err.ensures

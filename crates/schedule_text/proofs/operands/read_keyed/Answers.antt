use Rattle.schedule_text.proofs.LineOperands.{keyed_read, keyed_refused}
use Rattle.schedule_text.proofs.operands.read_keyed.Goals as goal

pub returns-in-Ok : goal.returns-in-Ok
returns-in-Ok c =
    keyed_read c.args.step c.args.workers c.in-Ok.worker c.args.text.now c.in-Ok.request c.keyed_of.result c.ranges.workers.fits c.in-Ok.ensures c.keyed_of.ensures

pub returns-in-Err : goal.returns-in-Err
returns-in-Err c = keyed_refused c.args.step c.args.workers c.args.text.now c.in-Err.fault c.in-Err.ensures

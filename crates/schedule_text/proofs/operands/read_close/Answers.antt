use Rattle.std.proofs.Common.{refl, ◌∙◌, arith}
use Rattle.schedule_text.proofs.LineOperands.{close_cut, close_refused}
use Rattle.schedule_text.proofs.operands.read_close.Goals as goal

pub returns-in_default-read_worker : goal.returns-in_default-read_worker
returns-in_default-read_worker c = close_refused c.args.workers c.args.text.now (λ worker index has.
    let parts =
    close_cut c.args.workers worker index c.args.text.now c.in-Some.number.now c.in-Some.digits.now c.ranges.workers.fits c.in-Some.ensures has in
    c.in_default-read_worker.ensures worker has.is_worker parts.0)

pub returns-in-Some-read_decimal : goal.returns-in-Some-read_decimal
returns-in-Some-read_decimal c = (
  refl,
  record {
    whole = c.in-Some.ensures.whole ∙ rw (c.in-Some-read_worker.ensures.0, c.in-Some-read_decimal.ensures) refl;
    is_worker = c.in-Some-read_worker.ensures.1;
    fits = omega arith;
  },
)

pub returns-in-None : goal.returns-in-None
returns-in-None c = close_refused c.args.workers c.args.text.now (λ worker index has.
    let parts =
    close_cut c.args.workers worker index c.args.text.now c.in-Some.number.now c.in-Some.digits.now c.ranges.workers.fits c.in-Some.ensures has in
    c.in-None.ensures index has.fits parts.1)

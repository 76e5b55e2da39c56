use Rattle.std.proofs.Common.{sym, ◌∙◌, ◌≡◌, true, false, arith}
use Rattle.std.specs.Prelude.{◌<◌, ◌^◌}
use Rattle.std.proofs.lemmas.Fmt.{decimal_injective}
use Rattle.schedule_text.proofs.operands.read_worker.Goals as goal

pub returns-else-is_worker : goal.returns-else-is_worker
returns-else-is_worker c = λ worker is text.
    let few = c.ranges.workers.fits in
    let top = is.1 in
    let range : c.in-Some.worker < 2 ^ 64 = omega (arith) in
    let same : worker ≡ c.in-Some.worker = decimal_injective worker c.in-Some.worker (omega (arith, few, top)) range (sym text ∙ c.in-Some.ensures) in
    let yes = c.is_worker.ensures.1 (rw same at is) in
    let no : true ≡ false = sym yes ∙ c.if-is_worker.false in
    cc no

pub returns-in-None : goal.returns-in-None
returns-in-None c = λ worker is text.
    let few = c.ranges.workers.fits in
    let top = is.1 in
    c.in-None.ensures worker (omega (arith, few, top)) text

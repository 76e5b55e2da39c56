use Rattle.std.proofs.Common.{◌≡◌, arith, drop}
use Rattle.std.proofs.lemmas.List.{at_drop_all}
use Rattle.control_text.specs.Diverted.{count_diverted}
use Rattle.control_text.proofs.Partitions.{count_next}
use Rattle.control_text.proofs.diverted.count_in.Goals as goal

pub loop-began-init : goal.loop-began-init
loop-began-init c = (omega arith, omega arith)

pub overflow_add-count : goal.overflow_add-count
overflow_add-count c =
    let few = c.loop-began.invariant.0 in
    omega (arith, few, c.count_one-count.ensures.few, c.loop-began-test.true)

pub loop-began-preserved : goal.loop-began-preserved
loop-began-preserved c =
    let was = c.loop-began.invariant in
    let next = count_next c.args.begun.now c.loop-began.began-index c.count_one-count.result _ c.count_one-count.ensures.one c.loop-began-test.true in
    (omega (arith, was.0, c.count_one-count.ensures.few), omega (arith, was.1, next))

pub returns : goal.returns
returns c =
    let none : count_diverted (drop c.loop-began.began-index c.args.begun.now) ≡ 0 = at_drop_all count_diverted c.args.begun.now c.loop-began.began-index (omega (arith, c.loop-began-test.false)) in
    omega (arith, c.loop-began.invariant.1, none)

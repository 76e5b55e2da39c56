use Rattle.std.proofs.Common.{Some, None, ◌∙◌}
use Rattle.control_text.proofs.Numbers.{numbers_cut, numbers-IsUtf8}
use Rattle.control_text.proofs.Texts.{copy_refused, partition-small, budget-small}
use Rattle.control_text.proofs.reading.read_copy.Goals as goal

pub returns-in_default : goal.returns-in_default
returns-in_default c = copy_refused c.args.operands.now (λ partition budget is fits text.
    c.in_default.ensures.cases.0
    (numbers-IsUtf8 c.args.operands.now partition budget (partition-small partition is) (budget-small budget fits) text))

pub returns-in_default-split_once : goal.returns-in_default-split_once
returns-in_default-split_once c = copy_refused c.args.operands.now (λ partition budget is fits text.
    numbers_cut c.in-Ok.numbers.now partition budget None (partition-small partition is) c.in_default-split_once.ensures.cases
    (c.in-Ok.ensures.cases.0 ∙ text))

pub returns-in_default-read_partition : goal.returns-in_default-read_partition
returns-in_default-read_partition c = copy_refused c.args.operands.now (λ partition budget is fits text.
    let cut =
    numbers_cut c.in-Ok.numbers.now partition budget (Some (c.in-Some.first, c.in-Some.second)) (partition-small partition is)
    c.in-Some.ensures.cases (c.in-Ok.ensures.cases.0 ∙ text) in
    c.in_default-read_partition.ensures partition is (c.as_bytes.ensures.value ∙ cut.0))

pub returns-in-None : goal.returns-in-None
returns-in-None c = copy_refused c.args.operands.now (λ partition budget is fits text.
    let cut =
    numbers_cut c.in-Ok.numbers.now partition budget (Some (c.in-Some.first, c.in-Some.second)) (partition-small partition is)
    c.in-Some.ensures.cases (c.in-Ok.ensures.cases.0 ∙ text) in
    c.in-None.ensures budget fits (c.as_bytes-2.ensures.value ∙ cut.1))

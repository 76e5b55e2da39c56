use Rattle.std.proofs.Common.{inl, inr, arith}
use Rattle.riak_msgs.proofs.PlainFields.{len_begins_one, len_begins_two, no_len-nil, no_len-short, no_len-second}
use Rattle.riak_msgs.proofs.plain_fields.first_len.Goals as goal

pub returns-in_default-clause-none : goal.returns-in_default-clause-none
returns-in_default-clause-none c = no_len-nil c.args.bytes.now c.in_default.ensures.cases

pub returns-then-low-lt128-clause-some : goal.returns-then-low-lt128-clause-some
returns-then-low-lt128-clause-some c =
    len_begins_one c.args.bytes.now c.in-Some.rest.now c.in-Some.low.now c.in-Some.ensures.cases.0 c.if-low-lt128.true

pub returns-in_default-split_first-clause-none : goal.returns-in_default-split_first-clause-none
returns-in_default-split_first-clause-none c =
    no_len-short c.args.bytes.now c.in-Some.rest.now c.in-Some.low.now c.in-Some.ensures.cases.0 c.if-low-lt128.false
    c.in_default-split_first.ensures.cases

pub returns-then-high-eq0-clause-none : goal.returns-then-high-eq0-clause-none
returns-then-high-eq0-clause-none c =
    no_len-second c.args.bytes.now c.in-Some.rest.now c.in-Some-split_first.behind.now c.in-Some.low.now c.in-Some-split_first.high.now
    c.in-Some.ensures.cases.0 c.if-low-lt128.false c.in-Some-split_first.ensures.cases.0 (inl c.if-high-eq0.true)

pub returns-then-high-ge128-clause-none : goal.returns-then-high-ge128-clause-none
returns-then-high-ge128-clause-none c =
    no_len-second c.args.bytes.now c.in-Some.rest.now c.in-Some-split_first.behind.now c.in-Some.low.now c.in-Some-split_first.high.now
    c.in-Some.ensures.cases.0 c.if-low-lt128.false c.in-Some-split_first.ensures.cases.0 (inr c.if-high-ge128.true)

pub returns-clause-some : goal.returns-clause-some
returns-clause-some c =
    len_begins_two c.args.bytes.now c.in-Some.rest.now c.in-Some-split_first.behind.now c.in-Some.low.now c.in-Some-split_first.high.now
    c.in-Some.ensures.cases.0 c.in-Some-split_first.ensures.cases.0 c.if-low-lt128.false (omega arith) (omega arith) c.if-high-ge128.false

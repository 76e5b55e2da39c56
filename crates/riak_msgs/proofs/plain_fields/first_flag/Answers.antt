use Rattle.riak_msgs.proofs.PlainParts.{begins_with_true, no_true-key, no_true-nil, no_true-short, no_true-value}
use Rattle.riak_msgs.proofs.plain_fields.first_flag.Goals as goal

pub returns-in_default-clause-found : goal.returns-in_default-clause-found
returns-in_default-clause-found c = λ behind b.
    absurd (no_true-nil c.args.number c.args.bytes.now behind c.requires c.in_default.ensures.cases b)

pub returns-then-key-number-clause-found : goal.returns-then-key-number-clause-found
returns-then-key-number-clause-found c = λ behind b.
    absurd (no_true-key c.args.number c.in-Some.key.now c.args.bytes.now c.in-Some.rest.now behind c.requires c.in-Some.ensures.cases.0
    c.if-key-number.true b)

pub returns-in_default-split_first-clause-found : goal.returns-in_default-split_first-clause-found
returns-in_default-split_first-clause-found c = λ behind b.
    absurd (no_true-short c.args.number c.in-Some.key.now c.args.bytes.now c.in-Some.rest.now behind c.requires c.in-Some.ensures.cases.0
    c.in_default-split_first.ensures.cases b)

pub returns-then-value-ne1-clause-found : goal.returns-then-value-ne1-clause-found
returns-then-value-ne1-clause-found c = λ behind b.
    absurd (no_true-value c.args.number c.in-Some.key.now c.in-Some-split_first.value.now c.args.bytes.now c.in-Some.rest.now
    c.in-Some-split_first.behind.now behind c.requires c.in-Some.ensures.cases.0 c.in-Some-split_first.ensures.cases.0 c.if-value-ne1.true b)

pub returns-clause-begins : goal.returns-clause-begins
returns-clause-begins c =
    begins_with_true c.args.number c.in-Some.key.now c.in-Some-split_first.value.now c.args.bytes.now c.in-Some.rest.now c.in-Some-split_first.behind.now
    c.requires c.in-Some.ensures.cases.0 c.if-key-number.false c.in-Some-split_first.ensures.cases.0 c.if-value-ne1.false

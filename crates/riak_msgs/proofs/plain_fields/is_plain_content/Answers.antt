use Rattle.riak_msgs.proofs.PlainFields.{no_bytes}
use Rattle.riak_msgs.proofs.PlainParts.{no_details, no_truth, plain_details}
use Rattle.riak_msgs.proofs.plain_fields.is_plain_content.Goals as goal

pub returns-in_default : goal.returns-in_default
returns-in_default c = (λ yes. absurd (no_truth yes), λ plain. absurd (c.in_default.ensures.none plain.value plain.details plain.begins))

pub returns-then-is_empty : goal.returns-then-is_empty
returns-then-is_empty c = (
  λ _. record {
    value = c.in-Some.field-0-0.now;
    details = c.in-Some.details.now;
    begins = c.in-Some.ensures.some;
    are = no_details c.in-Some.details.now (no_bytes c.in-Some.details.now c.if-is_empty.ensures);
  },
  λ _. c.if-is_empty.true,
)

pub returns-else-is_empty : goal.returns-else-is_empty
returns-else-is_empty c = (
  λ yes. record {
    value = c.in-Some.field-0-0.now;
    details = c.in-Some.details.now;
    begins = c.in-Some.ensures.some;
    are = c.are_details.ensures.0 yes;
  },
  λ plain. c.are_details.ensures.1 (plain_details c.args.bytes.now c.in-Some.field-0-0.now c.in-Some.details.now c.in-Some.ensures.some plain),
)

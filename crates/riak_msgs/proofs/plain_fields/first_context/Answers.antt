use Rattle.riak_msgs.proofs.PlainFields.{no_bytes, some_bytes}
use Rattle.riak_msgs.proofs.PlainParts.{begins_with_context, context_empty, context_found}
use Rattle.riak_msgs.proofs.plain_fields.first_context.Goals as goal

pub returns-in_default-clause-found : goal.returns-in_default-clause-found
returns-in_default-clause-found c = λ content behind b some. absurd (c.in_default.ensures.none content behind b)

pub returns-then-is_empty-clause-found : goal.returns-then-is_empty-clause-found
returns-then-is_empty-clause-found c = λ content behind b some.
    context_empty c.args.number c.args.bytes.now c.in-Some.context.now c.in-Some.behind.now content behind _ _ c.requires c.in-Some.ensures.some
    (no_bytes c.in-Some.context.now c.if-is_empty.ensures) b some

pub returns-clause-begins : goal.returns-clause-begins
returns-clause-begins c =
    begins_with_context c.args.number c.args.bytes.now c.in-Some.context.now c.in-Some.behind.now c.in-Some.ensures.some
    (some_bytes c.in-Some.context.now c.if-is_empty.ensures)

pub returns-clause-found : goal.returns-clause-found
returns-clause-found c = λ content behind b some.
    context_found c.args.number c.args.bytes.now c.in-Some.context.now c.in-Some.behind.now content behind c.requires c.in-Some.ensures.some b

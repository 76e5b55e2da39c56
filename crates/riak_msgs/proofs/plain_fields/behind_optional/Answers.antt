use Rattle.std.proofs.Common.{Some}
use Rattle.riak_msgs.proofs.PlainParts.{context_found}
use Rattle.riak_msgs.proofs.plain_fields.behind_optional.Goals as goal

pub returns-in-Some-clause-begins : goal.returns-in-Some-clause-begins
returns-in-Some-clause-begins c = (Some c.in-Some.field-0-0.now, c.in-Some.ensures.some)

pub returns-in-Some-clause-found : goal.returns-in-Some-clause-found
returns-in-Some-clause-found c = λ content behind b.
    (context_found c.args.number c.args.bytes.now c.in-Some.field-0-0.now c.in-Some.behind.now content behind c.requires c.in-Some.ensures.some b).1

use Rattle.std.proofs.Common.{◌≡◌, Ok, refl, inl}
use Rattle.riak_msgs.specs.declared.request.Request.TheVariants.{Ping}
use Rattle.node_session.proofs.answering.answer.Goals as goal

pub returns-then-code-eq-PING_CODE-clause-answers : goal.returns-then-code-eq-PING_CODE-clause-answers
returns-then-code-eq-PING_CODE-clause-answers g c =
    let is : c.args.code ≡ 1 = c.if-code-eq-PING_CODE.true in
    record { said = Ok Ping; says = inl (is, refl); answers = inl c.answer_into.ensures.step }

use Rattle.std.proofs.Common.{IfOk, subst}
use Rattle.riak_msgs.specs.Contents.{Content}
use Rattle.sibling_register.specs.Plain.{answer_of}
use Rattle.sibling_register.specs.declared.command.Command.{Command}
use Rattle.sibling_register.specs.declared.command.Command.TheVariants.{Put}
use Rattle.schedule_text.specs.PlainAnswers.{PlainRegisterAnswers}
use Rattle.schedule_text.proofs.plain_ask.ask_put.Goals as goal

pub returns : goal.returns
returns c =
    let ask = c.args.ask.now in
    let comes : Command Content → Type 0 = λ command. IfOk c.ask_command.result (λ told. PlainRegisterAnswers c.args.register.now command (answer_of told) c.ask_command.new.register) in
    subst (λ v. comes (Put ask.key c.args.context v ask.return_body ask.return_head ask.if_not_modified ask.if_none_match)) c.in_ok-value.ensures
    (subst (λ k. comes (Put k c.args.context c.in_ok-value.value ask.return_body ask.return_head ask.if_not_modified ask.if_none_match)) c.in_ok-key.ensures c.ask_command.ensures)

use Rattle.std.proofs.Common.{IfOk, subst}
use Rattle.sibling_register.specs.Plain.{answer_of}
use Rattle.sibling_register.specs.declared.command.Command.TheVariants.{Del}
use Rattle.schedule_text.specs.PlainAnswers.{PlainRegisterAnswers}
use Rattle.schedule_text.proofs.plain_ask.ask_del.Goals as goal

pub returns : goal.returns
returns c =
    subst (λ k. IfOk c.ask_command.result (λ told. PlainRegisterAnswers c.args.register.now (Del k c.args.context) (answer_of told) c.ask_command.new.register))
    c.in_ok-key.ensures c.ask_command.ensures

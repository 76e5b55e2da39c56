use Rattle.sibling_register.specs.Plain.{answer_of}
use Rattle.schedule_text.proofs.PlainAsking.{comes}
use Rattle.schedule_text.proofs.plain_ask.ask_command.Goals as goal

pub returns-in-Ok : goal.returns-in-Ok
returns-in-Ok c = comes _ _ _ (answer_of c.in-Ok.told) c.in-Ok.ensures.gives

use Rattle.std.proofs.Common.{refl, ap}
use Rattle.sibling_register.specs.Answers.{AskGet, AskPut, AskDel}
use Rattle.vnode_machine.specs.Asks.{get_command, put_command, del_command, request_ask}
use Rattle.schedule_text.proofs.reply_parts.key_and_context.Goals as goal

pub returns-in-Get-clause-some : goal.returns-in-Get-clause-some
returns-in-Get-clause-some c = (AskGet (get_command c.in-Get.ask), ap request_ask c.in-Get.is, refl, refl)

pub returns-in-Put-clause-some : goal.returns-in-Put-clause-some
returns-in-Put-clause-some c = (AskPut (put_command c.in-Put.ask), ap request_ask c.in-Put.is, refl, refl)

pub returns-in-Del-clause-some : goal.returns-in-Del-clause-some
returns-in-Del-clause-some c = (AskDel (del_command c.in-Del.ask), ap request_ask c.in-Del.is, refl, refl)

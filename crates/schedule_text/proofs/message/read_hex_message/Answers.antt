use Rattle.schedule_text.proofs.Messages.{message_read}
use Rattle.schedule_text.proofs.message.read_hex_message.Goals as goal

pub returns : goal.returns
returns c =
    message_read c.args.digits.now c.in_ok-message.message.items c.read_message.result c.in_ok-message.ensures
    (rw c.as_slice.ensures.value at c.read_message.ensures)

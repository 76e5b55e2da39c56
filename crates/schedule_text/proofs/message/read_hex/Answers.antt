use Rattle.std.proofs.Common.{sym, ◌∙◌, ◌≡◌, true, false}
use Rattle.schedule_text.proofs.Hexadecimal.{decoded, hex_is_written, written_is_hex}
use Rattle.schedule_text.proofs.message.read_hex.Goals as goal

pub returns-in-Ok : goal.returns-in-Ok
returns-in-Ok c =
    decoded c.args.text.now c.in-Ok.message.items (sym c.is_hex.ensures ∙ c.if-is_hex.true) c.in-Ok.ensures.ok

pub returns-in-Err : goal.returns-in-Err
returns-in-Err c = hex_is_written c.args.text.now (sym c.is_hex.ensures ∙ c.if-is_hex.true)

pub returns-else-is_hex : goal.returns-else-is_hex
returns-else-is_hex c = λ message is.
    let no : true ≡ false = sym (written_is_hex c.args.text.now message is) ∙ sym c.is_hex.ensures ∙ c.if-is_hex.false in
    cc no

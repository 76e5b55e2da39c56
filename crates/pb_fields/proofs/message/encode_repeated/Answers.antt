use Rattle.std.proofs.Common.{take}
use Rattle.pb_fields.specs.Encoding.{bytes_field, repeated_field}
use Rattle.pb_fields.proofs.Repeated.{repeated_field-take_more}
use Rattle.pb_fields.proofs.message.encode_repeated.Goals as goal

pub loop-message-preserved : goal.loop-message-preserved
loop-message-preserved g c =
    let encode = g.M.Message.encoding in
    let messages = c.args.messages.now in
    let i = c.loop-message.message-index in
    let x = c.message-item.result in
    rw (repeated_field-take_more encode c.args.number messages i x c.loop-message-test.true, ← c.message-item.is)
    (g.met.O.Output.joins c.args.out.now c.loop-message.out c.encode_message.new.out (repeated_field encode c.args.number (take i messages)) (bytes_field c.args.number (encode x)) c.loop-message.invariant c.in_ok-encode_message.ensures)

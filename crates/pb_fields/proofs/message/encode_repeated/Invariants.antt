use Rattle.std.proofs.Common.{take}
use Rattle.pb_fields.specs.Encoding.{repeated_field}
use Rattle.pb_fields.proofs.message.encode_repeated.Given as goal

abbrev pub invariant-loop-message : goal.invariant-loop-message
invariant-loop-message g l =
    g.O.Output.appends l.initial.out (repeated_field g.M.Message.encoding l.number (take l.message-index l.messages)) l.out

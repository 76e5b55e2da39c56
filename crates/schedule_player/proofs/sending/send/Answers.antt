use Rattle.std.proofs.Common.{◌-◌, length, drop, arith}
use Rattle.std.proofs.lemmas.List.{length-take, length-drop}
use Rattle.schedule_player.proofs.Known.{write_more}
use Rattle.schedule_player.proofs.sending.send.Goals as goal

pub loop-sent-preserved : goal.loop-sent-preserved
loop-sent-preserved g c =
    let xs = c.args.bytes.now in
    let i = c.loop-sent.sent in
    let more = c.in_ok-sent.ensures in
    record {
      within = omega (arith, more.some.1, length-take (length xs - i) (drop i xs), length-drop i xs);
      written = write_more _ _ _ xs i c.in_ok-sent.field-0 c.loop-sent.invariant.written more.taken;
    }

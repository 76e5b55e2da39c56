use Rattle.std.proofs.Common.{◌≡◌, ◌<◌, length, arith, subst}
use Rattle.std.proofs.lemmas.List.{nil_from_length}
use Rattle.std.proofs.lemmas.Result.{err_from_is_err_and}
use Rattle.schedule_player.specs.declared.player.Player.{Player}
use Rattle.schedule_player.specs.Progress.{WritesEnd}
use Rattle.schedule_player.proofs.Going.{end_empty, end_line, end_stops}
use Rattle.schedule_player.proofs.pieces.finish.Goals as goal
use Rattle.schedule_player.proofs.pieces.finish.Goals.{then-not-is_empty+in_ok-play_line, else-not-is_empty}

pub returns-in_err-play_line : goal.returns-in_err-play_line
returns-in_err-play_line g c =
    let some : 0 < length c.args.partial.now = grind (arith, c.is_empty.ensures, c.if-not-is_empty.true) in
    let p = err_from_is_err_and c.from_residual.result c.from_residual.ensures.1 in
    rw (p.1, p.2)
    (end_stops c.in_err-play_line.field-0.0 c.args.player.now c.play_line.new.self c.args.partial.now (g.W.Write.contents c.args.writer.now) (g.W.Write.contents c.play_line.new.writer) some c.in_err-play_line.ensures)

pub returns : goal.returns
returns g c =
    let held = g.W.Write.contents c.args.writer.now in
    let held'' = g.W.Write.contents c.write_end.new.writer in
    elim c.if-not-is_empty.branch [
      | then-not-is_empty+in_ok-play_line w ↦
          let some : 0 < length c.args.partial.now = grind (arith, c.is_empty.ensures, w.if-not-is_empty.true) in
          let by_player = subst (λ (x : Player). WritesEnd x (g.W.Write.contents c.if-not-is_empty.writer) held'' c.write_end.result) w.player-is c.write_end.ensures in
          let end = subst (λ x. WritesEnd w.play_line.new.self (g.W.Write.contents x) held'' c.write_end.result) w.writer-is by_player in
          end_line c.write_end.result c.args.player.now w.play_line.new.self c.args.partial.now held (g.W.Write.contents w.play_line.new.writer) held'' some w.in_ok-play_line.ensures end
      | else-not-is_empty w ↦
          let short : length c.args.partial.now ≡ 0 = grind (arith, c.is_empty.ensures, w.if-not-is_empty.false) in
          let none = nil_from_length c.args.partial.now short in
          let by_player = subst (λ (x : Player). WritesEnd x (g.W.Write.contents c.if-not-is_empty.writer) held'' c.write_end.result) w.player-is c.write_end.ensures in
          let end = subst (λ x. WritesEnd c.args.player.now (g.W.Write.contents x) held'' c.write_end.result) w.writer-is by_player in
          end_empty c.write_end.result c.args.player.now c.args.partial.now held held'' none end
    ]

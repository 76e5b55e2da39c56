use Rattle.std.proofs.Common.{◌≡◌, length}
use Rattle.schedule_player.proofs.Going.{HasRead}
use Rattle.schedule_player.proofs.playing.play.Given as goal

abbrev pub invariant-loop : goal.invariant-loop
invariant-loop g l = record {
  room : length l.piece ≡ 4096;
  read : HasRead l.fn.player (g.R.Read.remaining l.fn.reader) (g.R.Read.remaining l.reader) (g.W.Write.contents l.fn.writer) l.player l.partial.items (g.W.Write.contents l.writer);
}

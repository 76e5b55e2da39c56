use Rattle.std.proofs.Common.{length}
use Rattle.schedule_player.proofs.Going.{HasGone}
use Rattle.schedule_player.proofs.pieces.play_piece.Given as goal

abbrev pub invariant-loop-front : goal.invariant-loop-front
invariant-loop-front g l = HasGone l.initial.player l.initial.partial.items l.piece (g.W.Write.contents l.initial.writer) l.player l.rest l.partial.items (g.W.Write.contents l.writer)

abbrev pub decreases-loop-front : goal.decreases-loop-front
decreases-loop-front g l = length l.rest

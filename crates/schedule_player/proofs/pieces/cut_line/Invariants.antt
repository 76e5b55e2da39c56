use Rattle.std.proofs.Common.{take, length, ◌-◌}
use Rattle.schedule_text.specs.Cuts.{Lacks}
use Rattle.schedule_player.proofs.pieces.cut_line.Given as goal

abbrev pub invariant-loop-at : goal.invariant-loop-at
invariant-loop-at l = Lacks 10 (take l.at l.text)

abbrev pub decreases-loop-at : goal.decreases-loop-at
decreases-loop-at l = length l.text - l.at

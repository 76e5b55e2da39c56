use Rattle.std.proofs.Common.{◌≡◌}
use Rattle.std.specs.Cmp.Lexicographic.{pointwise}
use Rattle.actor_epoch.specs.Dots.{dot_eq}
use Rattle.schedule_text.proofs.shown_context.have_same_pairs.Given as goal

abbrev pub invariant-loop-pair : goal.invariant-loop-pair
invariant-loop-pair l = pointwise dot_eq l.initial.pair-iterator l.initial.others ≡ pointwise dot_eq l.pair-iterator l.others

use Rattle.std.proofs.Common.{◌≡◌, drop}
use Rattle.schedule_text.specs.ShownIndex.{position_among}
use Rattle.schedule_text.proofs.shown_contexts.position_among.Given as goal

abbrev pub invariant-loop-place : goal.invariant-loop-place
invariant-loop-place l = position_among l.entries l.key l.context l.places ≡ position_among l.entries l.key l.context (drop l.place-index l.places)

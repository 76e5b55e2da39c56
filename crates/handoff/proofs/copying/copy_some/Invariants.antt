use Rattle.std.proofs.Common.{◌≡◌, ◌≤◌, [], length}
use Rattle.handoff.specs.Copying.{AreCopies, RiseBetween, WereTried}
use Rattle.handoff.proofs.copying.copy_some.Given as goal

abbrev pub invariant-loop : goal.invariant-loop
invariant-loop g l =
    (l.mine.gate ≡ l.partition.primary.now) × (l.theirs.gate ≡ l.partition.fallback.now.gate) × (l.theirs.own ≡ []) × (l.keys ≡ length l.mine.own) × WereTried l.partition.fallback.now.diversion l.mine l.theirs l.keys l.tried × (l.tried ≤ l.budget)
    × AreCopies l.partition.fallback.now.diversion l.mine l.theirs l.mine.own × RiseBetween l.began l.mine.own (length l.mine.prefix)

use Rattle.std.proofs.Common.{◌≡◌, ◌++◌, length}
use Rattle.dvv_set.specs.Stored.{values_in}
use Rattle.dvv_set.proofs.values.ValuesIterator.next.Given as goal

abbrev pub invariant-loop-value : goal.invariant-loop-value
invariant-loop-value g l = l.self-inside.first.now ++ values_in l.self-inside.entries.now ≡ l.initial.self-inside.first.now ++ values_in l.initial.self-inside.entries.now

abbrev pub decreases-loop-value : goal.decreases-loop-value
decreases-loop-value g l = length l.self-inside.entries.now

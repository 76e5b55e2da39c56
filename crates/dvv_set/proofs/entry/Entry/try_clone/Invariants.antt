use Rattle.std.proofs.Common.{◌≡◌, ◌++◌, drop}
use Rattle.dvv_set.proofs.entry.Entry.try_clone.Given as goal

abbrev pub invariant-loop-value : goal.invariant-loop-value
invariant-loop-value g l = l.values.items ++ drop l.value-index l.value-items ≡ l.value-items

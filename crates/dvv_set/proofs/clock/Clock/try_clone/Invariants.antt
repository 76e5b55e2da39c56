use Rattle.std.proofs.Common.{◌≡◌, ◌++◌, drop}
use Rattle.dvv_set.specs.Stored.{clock_entries}
use Rattle.dvv_set.proofs.clock.Clock.try_clone.Given as goal

abbrev pub invariant-loop-entry : goal.invariant-loop-entry
invariant-loop-entry g l = clock_entries l.entries.items ++ clock_entries (drop l.entry-index l.entry-items) ≡ clock_entries l.entry-items

use Rattle.std.proofs.Common.{◌≡◌, ◌≤◌, ◌+◌, drop}
use Rattle.dvv_set.specs.ClockEntries.{count_new}
use Rattle.dvv_set.specs.Stored.{clock_entries}
use Rattle.dvv_set.proofs.room.count_new.Given as goal

abbrev pub invariant-loop-other : goal.invariant-loop-other
invariant-loop-other g l = (l.new ≤ l.other-index) × (count_new (clock_entries l.others) (clock_entries l.entries) ≡ l.new + count_new (clock_entries (drop l.other-index l.others)) (clock_entries l.entries))

use Rattle.std.proofs.Common.{◌≡◌, ◌≤◌, ◌+◌, ◌*◌, [], drop}
use Rattle.std.specs.Prelude.{unwrap_or}
use Rattle.dvv_set.specs.Held.{pairs_of}
use Rattle.dvv_set.specs.ClockEntries.{count_uncovered}
use Rattle.dvv_set.specs.Stored.{clock_entries}
use Rattle.dvv_set.proofs.room.uncovered.Given as goal

abbrev pub invariant-loop-entry : goal.invariant-loop-entry
invariant-loop-entry g l =
    (l.count ≤ 18446744073709551615 * l.entry-index)
    × (count_uncovered (unwrap_or (pairs_of l.context) []) (clock_entries l.entries) ≡ l.count + count_uncovered (unwrap_or (pairs_of l.context) []) (clock_entries (drop l.entry-index l.entries)))

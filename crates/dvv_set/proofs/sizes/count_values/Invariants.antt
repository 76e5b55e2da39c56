use Rattle.std.proofs.Common.{◌≡◌, ◌≤◌, ◌+◌, ◌*◌, drop}
use Rattle.dvv_set.specs.Sizes.{total, values_in_entry}
use Rattle.dvv_set.specs.Stored.{clock_entries}
use Rattle.dvv_set.proofs.sizes.count_values.Given as goal

abbrev pub invariant-loop-entry : goal.invariant-loop-entry
invariant-loop-entry g l =
    (l.count ≤ 18446744073709551615 * l.entry-index)
    × (total values_in_entry (clock_entries l.entries) ≡ l.count + total values_in_entry (clock_entries (drop l.entry-index l.entries)))

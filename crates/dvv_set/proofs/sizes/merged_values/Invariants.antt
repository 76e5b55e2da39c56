use Rattle.std.proofs.Common.{◌≡◌, ◌≤◌, ◌+◌, ◌*◌, drop}
use Rattle.dvv_set.specs.Sizes.{total, values_in_entry, values_merged, values_replaced}
use Rattle.dvv_set.specs.Stored.{clock_entries}
use Rattle.dvv_set.proofs.sizes.merged_values.Given as goal

abbrev pub invariant-loop-other : goal.invariant-loop-other
invariant-loop-other g l =
    (l.merged ≤ 18446744073709551615 * (64 + l.other-index))
    × ((l.replaced ≤ 18446744073709551615 * l.other-index)
    × ((total values_in_entry (clock_entries l.entries) + total (values_merged (clock_entries l.entries)) (clock_entries l.others)
    ≡ l.merged + total (values_merged (clock_entries l.entries)) (clock_entries (drop l.other-index l.others)))
    × (total (values_replaced (clock_entries l.entries)) (clock_entries l.others)
    ≡ l.replaced + total (values_replaced (clock_entries l.entries)) (clock_entries (drop l.other-index l.others)))))

use Rattle.std.proofs.Common.{◌≡◌, ◌≤◌, IsTrue, length, take}
use Rattle.dvv_set.specs.ClockEntries.{merge_all, AreEntries}
use Rattle.dvv_set.specs.Stored.{clock_entries}
use Rattle.dvv_set.proofs.Ahead.{are_ahead}
use Rattle.dvv_set.proofs.merging.merge_all.Given as goal

abbrev pub invariant-loop-others : goal.invariant-loop-others
invariant-loop-others g l = record {
  entries : AreEntries (clock_entries l.entries.items);
  others : AreEntries (clock_entries l.others.items);
  within : l.first ≤ length l.entries.items;
  ahead : IsTrue (are_ahead (clock_entries (take l.first l.entries.items)) (clock_entries l.others.items));
  room : l.initial.entries.capacity ≤ l.entries.capacity;
  same : merge_all (clock_entries l.others.items) (clock_entries l.entries.items) ≡ merge_all (clock_entries l.initial.others.items) (clock_entries l.initial.entries.items);
}

abbrev pub decreases-loop-others : goal.decreases-loop-others
decreases-loop-others g l = length l.others.items

use Rattle.std.proofs.Common.{◌≡◌, ◌≤◌, IsTrue, length, take}
use Rattle.std.specs.List.{list_all}
use Rattle.dvv_set.specs.ClockEntries.{merge_all, AreEntries, entries_of_pairs}
use Rattle.dvv_set.specs.Stored.{clock_entries, has_room}
use Rattle.dvv_set.proofs.Ahead.{are_ahead}
use Rattle.dvv_set.proofs.merging.merge_pairs.Given as goal

abbrev pub invariant-loop-actor : goal.invariant-loop-actor
invariant-loop-actor g l = record {
  entries : AreEntries (clock_entries l.entries.items);
  others : AreEntries (entries_of_pairs {V = g.row.V.Denot} l.actor-iterator);
  within : l.first ≤ length l.entries.items;
  ahead : IsTrue (are_ahead (clock_entries (take l.first l.entries.items)) (entries_of_pairs {V = g.row.V.Denot} l.actor-iterator));
  room : l.initial.entries.capacity ≤ l.entries.capacity;
  rooms : IsTrue (list_all has_room l.initial.entries.items) → IsTrue (list_all has_room l.entries.items);
  same : merge_all (entries_of_pairs l.actor-iterator) (clock_entries l.entries.items) ≡ merge_all (entries_of_pairs l.initial.actor-iterator) (clock_entries l.initial.entries.items);
}

use Rattle.std.proofs.Common.{◌≡◌, length, IsTrue}
use Rattle.std.specs.List.{list_all}
use Rattle.dvv_set.specs.Stored.{clock_entries, has_room}
use Rattle.dvv_set.proofs.Emptied.{emptied_to}
use Rattle.dvv_set.proofs.entry.drop_values.Given as goal

abbrev pub invariant-loop-at : goal.invariant-loop-at
invariant-loop-at g l = record {
  entries : clock_entries l.entries.items ≡ emptied_to l.at (clock_entries l.initial.entries.items);
  length : length l.entries.items ≡ length l.initial.entries.items;
  capacity : l.entries.capacity ≡ l.initial.entries.capacity;
  rooms : IsTrue (list_all has_room l.initial.entries.items) → IsTrue (list_all has_room l.entries.items);
}

use Rattle.std.proofs.Common.{◌≡◌, length, take, IsTrue}
use Rattle.std.specs.List.{list_all}
use Rattle.dvv_set.specs.Stored.{clock_entries, has_room}
use Rattle.dvv_set.proofs.entry.reserve_room.Given as goal

abbrev pub invariant-loop-at : goal.invariant-loop-at
invariant-loop-at g l = record {
  same : clock_entries l.entries.items ≡ clock_entries l.initial.entries.items;
  length : length l.entries.items ≡ length l.initial.entries.items;
  capacity : l.entries.capacity ≡ l.initial.entries.capacity;
  rooms : IsTrue (list_all has_room (take l.at l.entries.items));
}

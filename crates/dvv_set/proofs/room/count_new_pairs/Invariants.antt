use Rattle.std.proofs.Common.{◌≡◌, ◌≤◌, ◌+◌, length}
use Rattle.std.specs.Prelude.{T}
use Rattle.std.specs.FinMap.Entries.{is_sorted}
use Rattle.actor_epoch.specs.Dots.{actor_cmp}
use Rattle.dvv_set.specs.ClockEntries.{count_new, entries_of_pairs}
use Rattle.dvv_set.specs.Stored.{clock_entries}
use Rattle.dvv_set.proofs.room.count_new_pairs.Given as goal

abbrev pub invariant-loop-actor : goal.invariant-loop-actor
invariant-loop-actor g l = record {
  few : l.new + length l.actor-iterator ≤ 64;
  pairs : T (is_sorted actor_cmp (entries_of_pairs {V = g.row.V.Denot} l.actor-iterator));
  sorted : T (is_sorted actor_cmp (clock_entries l.rest));
  counted : count_new (entries_of_pairs l.initial.actor-iterator) (clock_entries l.entries) ≡ l.new + count_new (entries_of_pairs l.actor-iterator) (clock_entries l.rest);
}

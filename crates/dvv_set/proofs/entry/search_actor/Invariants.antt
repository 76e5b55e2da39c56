use Rattle.std.proofs.Common.{◌≡◌, drop}
use Rattle.dvv_set.specs.Stored.{clock_entries, search_actor}
use Rattle.dvv_set.proofs.Places.{further}
use Rattle.dvv_set.proofs.entry.search_actor.Given as goal

abbrev pub invariant-loop-at : goal.invariant-loop-at
invariant-loop-at g l = search_actor l.actor (clock_entries l.entries) ≡ further l.at (search_actor l.actor (clock_entries (drop l.at l.entries)))

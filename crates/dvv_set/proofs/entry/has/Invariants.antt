use Rattle.std.proofs.Common.{◌≡◌, drop}
use Rattle.std.specs.Prelude.{is_some}
use Rattle.std.specs.FinMap.Entries.{find}
use Rattle.actor_epoch.specs.Dots.{actor_cmp}
use Rattle.dvv_set.specs.Stored.{clock_entries}
use Rattle.dvv_set.proofs.entry.has.Given as goal

abbrev pub invariant-loop-entry : goal.invariant-loop-entry
invariant-loop-entry g l = is_some (find actor_cmp l.actor (clock_entries l.entries)) ≡ is_some (find actor_cmp l.actor (clock_entries (drop l.entry-index l.entries)))

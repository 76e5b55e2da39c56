use Rattle.std.proofs.Common.{◌≡◌, ◌++◌, drop, map}
use Rattle.std.specs.Prelude.{Some}
use Rattle.dvv_set.specs.References.{referred, with_entry}
use Rattle.dvv_set.specs.Stored.{clock_entries}
use Rattle.dvv_set.proofs.clock.Clock.references.Given as goal

abbrev pub invariant-loop-entry : goal.invariant-loop-entry
invariant-loop-entry g l =
    map (with_entry referred) (clock_entries l.entries.items) ++ map (with_entry (λ value. Some value)) (clock_entries (drop l.entry-index l.entry-items))
    ≡ map (with_entry (λ value. Some value)) (clock_entries l.entry-items)

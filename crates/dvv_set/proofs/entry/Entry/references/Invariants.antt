use Rattle.std.proofs.Common.{◌≡◌, ◌++◌, drop, map}
use Rattle.std.specs.Prelude.{Some}
use Rattle.dvv_set.specs.References.{referred}
use Rattle.dvv_set.proofs.entry.Entry.references.Given as goal

abbrev pub invariant-loop-value : goal.invariant-loop-value
invariant-loop-value g l = map referred l.values.items ++ map (λ value. Some value) (drop l.value-index l.value-items) ≡ map (λ value. Some value) l.value-items

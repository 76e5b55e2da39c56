use Rattle.std.proofs.Common.{◌≡◌}
use Rattle.std.specs.Prelude.{None}
use Rattle.clock_store.specs.Index.{first_marked}
use Rattle.clock_store.proofs.clock_map.short_index.first_in.Given as goal

abbrev pub invariant-loop-key : goal.invariant-loop-key
invariant-loop-key l =
    (first_marked l.spare None l.key-iterator ≡ first_marked l.spare None l.initial.key-iterator)
    × (goal.iterator-loop-key).can_next l.key-iterator × (goal.iterator-loop-key).is_finite l.key-iterator

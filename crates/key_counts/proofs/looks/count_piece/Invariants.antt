use Rattle.std.proofs.Common.{◌≡◌}
use mathlib.Core.List.{IsPrefix}
use Rattle.key_counts.proofs.looks.count_piece.Given as goal

abbrev pub invariant-loop : goal.invariant-loop
invariant-loop g l =
    (goal.iterator-loop g).can_next l.iterator' × (goal.iterator-loop g).is_finite l.iterator' × (l.pass.gate ≡ l.gate)
    × IsPrefix l.initial.pass.prefix l.pass.prefix × (l.at ≡ l.initial.at) × (l.behind.value ≡ l.initial.at)

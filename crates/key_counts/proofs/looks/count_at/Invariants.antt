use Rattle.std.proofs.Common.{◌≡◌}
use Rattle.key_counts.specs.Looks.{counts_of_pieces}
use Rattle.key_counts.proofs.Pieces.{Completes}
use Rattle.key_counts.proofs.looks.count_at.Given as goal

abbrev pub invariant-loop : goal.invariant-loop
invariant-loop g l =
    (goal.iterator-loop g).can_next l.iterator' × (goal.iterator-loop g).is_finite l.iterator' × (l.pass.gate ≡ l.gate)
    × (l.counts ≡ counts_of_pieces l.pieces) × Completes l.gate l.pieces l.at l.pass.prefix

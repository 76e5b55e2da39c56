use Rattle.std.proofs.Common.{◌≡◌, ◌+◌, ◌-◌, ◌≤◌, ◌^◌, min, length}
use Rattle.key_counts.proofs.counts.count_siblings.Given as goal

abbrev pub invariant-loop-sibling : goal.invariant-loop-sibling
invariant-loop-sibling l =
    (l.count ≤ 2 ^ 64 - 1)
    × (min (l.count + length l._sibling-iterator) (2 ^ 64 - 1)
    ≡ min (length l.initial._sibling-iterator) (2 ^ 64 - 1))

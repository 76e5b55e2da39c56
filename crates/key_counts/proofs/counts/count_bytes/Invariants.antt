use Rattle.std.proofs.Common.{◌≡◌, ◌+◌, ◌-◌, ◌≤◌, ◌^◌, min}
use Rattle.std.specs.List.{sum_by}
use Rattle.key_counts.specs.Stored.{value_len}
use Rattle.key_counts.proofs.counts.count_bytes.Given as goal

abbrev pub invariant-loop-sibling : goal.invariant-loop-sibling
invariant-loop-sibling l =
    (l.count ≤ 2 ^ 64 - 1)
    × (min (l.count + sum_by value_len l.sibling-iterator) (2 ^ 64 - 1)
    ≡ min (sum_by value_len l.initial.sibling-iterator) (2 ^ 64 - 1))

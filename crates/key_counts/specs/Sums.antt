-- Numbers of what is stored, and their sums.
use Rattle.std.specs.Prelude.{◌+◌, ◌-◌, ◌^◌, List, [], ◌∷◌, min}
use Rattle.key_counts.specs.declared.counts.KeyCounts.{KeyCounts}

-- nothing is stored
abbrev pub no_counts : KeyCounts
no_counts = record { keys = 0; siblings = 0; dead_keys = 0; value_bytes = 0 }

-- both together
abbrev pub plus : KeyCounts → KeyCounts → KeyCounts
plus counts more = record {
  keys = counts.keys + more.keys;
  siblings = counts.siblings + more.siblings;
  dead_keys = counts.dead_keys + more.dead_keys;
  value_bytes = counts.value_bytes + more.value_bytes;
}

-- all together
abbrev pub sum_of : List KeyCounts → KeyCounts
sum_of [] = no_counts
sum_of (counts ∷ others) = plus counts (sum_of others)

-- each number stops at the greatest that 64 bits hold
abbrev pub capped : KeyCounts → KeyCounts
capped counts = record {
  keys = min counts.keys (2 ^ 64 - 1);
  siblings = min counts.siblings (2 ^ 64 - 1);
  dead_keys = min counts.dead_keys (2 ^ 64 - 1);
  value_bytes = min counts.value_bytes (2 ^ 64 - 1);
}

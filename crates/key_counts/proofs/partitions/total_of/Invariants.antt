use Rattle.std.proofs.Common.{◌≡◌, map, take}
use Rattle.key_counts.specs.Partitions.{counts_at}
use Rattle.key_counts.specs.Sums.{capped, sum_of}
use Rattle.key_counts.proofs.partitions.total_of.Given as goal

abbrev pub invariant-loop-partition : goal.invariant-loop-partition
invariant-loop-partition l = l.total ≡ capped (sum_of (map counts_at (take l.partition-index l.partitions)))

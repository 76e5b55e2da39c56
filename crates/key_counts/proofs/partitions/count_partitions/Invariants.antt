use Rattle.std.proofs.Common.{◌≡◌, length}
use Rattle.key_counts.specs.Partitions.{AreEachCounted}
use Rattle.key_counts.proofs.partitions.count_partitions.Given as goal

abbrev pub invariant-loop-index : goal.invariant-loop-index
invariant-loop-index g l = AreEachCounted l.handoff l.partitions.items × (length l.partitions.items ≡ l.index)

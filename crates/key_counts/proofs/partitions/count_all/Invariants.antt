use Rattle.std.proofs.Common.{◌≡◌, length}
use Rattle.key_counts.specs.Partitions.{AreEachCounted, total_in}
use Rattle.key_counts.proofs.partitions.count_all.Given as goal

abbrev pub invariant-loop-index : goal.invariant-loop-index
invariant-loop-index g l = AreEachCounted l.handoff l.partitions × (length l.partitions ≡ l.index) × (l.total ≡ total_in l.partitions)

use Rattle.std.proofs.Common.{◌∙◌, ◌++◌, ◌∷◌, [], List, ap, sym, take, map}
use Rattle.std.proofs.lemmas.List.{take_more}
use Rattle.key_counts.specs.declared.partitions.PartitionCounts.{PartitionCounts}
use Rattle.key_counts.specs.Partitions.{counts_at}
use Rattle.key_counts.specs.Sums.{capped, sum_of}
use Rattle.key_counts.proofs.Sums.{capped-push}
use Rattle.key_counts.proofs.partitions.total_of.Goals as goal

pub loop-partition-preserved : goal.loop-partition-preserved
loop-partition-preserved c =
    let partitions = c.args.partitions.now in
    let index = c.loop-partition.partition-index in
    let partition = c.partition-item.result in
    let so_far = take_more partitions index partition c.loop-partition-test.true ∙ ap (λ x. take index partitions ++ x ∷ []) (sym c.partition-item.is) in
    c.add_partition-total.ensures ∙ capped-push counts_at (take index partitions) partition c.loop-partition.total c.loop-partition.invariant
    ∙ ap (λ (ps : List PartitionCounts). capped (sum_of (map counts_at ps))) (sym so_far)

use Rattle.std.proofs.Common.{◌+◌, ap, sym, subst, ◌∙◌, length, length-append, ◌∷◌, []}
use Rattle.key_counts.specs.Partitions.{IsCountedAt, counts_at, total_in}
use Rattle.key_counts.proofs.Lists.{each-push}
use Rattle.key_counts.proofs.Sums.{capped-push}
use Rattle.key_counts.proofs.partitions.count_all.Goals as goal

pub loop-index-preserved : goal.loop-index-preserved
loop-index-preserved g c =
    let handoff = c.args.handoff.now in
    let partitions = c.loop-index.partitions in
    let one = c.in_ok-partition.partition in
    let grown = c.push.ensures in
    let many = c.loop-index.invariant.1 in
    let counted = subst (λ n. IsCountedAt handoff n one) (sym many) c.in_ok-partition.ensures in (
      rw grown (each-push (IsCountedAt handoff) partitions one c.loop-index.invariant.0 counted),
      ap length grown ∙ length-append partitions (one ∷ []) ∙ ap (λ n. n + 1) many,
      c.add_partition-total.ensures ∙ capped-push counts_at partitions one c.loop-index.total c.loop-index.invariant.2 ∙ ap total_in (sym grown),
    )

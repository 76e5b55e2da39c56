use Rattle.std.proofs.Common.{◌+◌, ap, sym, subst, ◌∙◌, length, length-append, ◌∷◌, []}
use Rattle.key_counts.specs.Partitions.{IsCountedAt}
use Rattle.key_counts.proofs.Lists.{each-push}
use Rattle.key_counts.proofs.partitions.count_partitions.Goals as goal

pub loop-index-preserved : goal.loop-index-preserved
loop-index-preserved g c =
    let handoff = c.args.handoff.now in
    let partitions = c.loop-index.partitions.items in
    let one = c.in_ok-count_partition.field-0 in
    let grown = c.in_ok-push.ensures.items in
    let many = c.loop-index.invariant.1 in
    let counted = subst (λ n. IsCountedAt handoff n one) (sym many) c.in_ok-count_partition.ensures in
    (rw grown (each-push (IsCountedAt handoff) partitions one c.loop-index.invariant.0 counted), ap length grown ∙ length-append partitions (one ∷ []) ∙ ap (λ n. n + 1) many)

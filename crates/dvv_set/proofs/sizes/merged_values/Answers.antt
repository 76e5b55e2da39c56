use Rattle.std.proofs.Common.{◌+◌, ◌∙◌, sym, ap, arith, drop}
use Rattle.std.proofs.Math.ListN.{drop_of_length-le}
use Rattle.dvv_set.specs.ClockEntries.{is_entry}
use Rattle.dvv_set.specs.Sizes.{total, values_merged, values_replaced}
use Rattle.dvv_set.specs.Stored.{clock_entry, clock_entries}
use Rattle.dvv_set.proofs.SyncSizes.{total-merge_all, total-next, each-get}
use Rattle.dvv_set.proofs.sizes.merged_values.Goals as goal

pub offset_bounds-others-other-index : goal.offset_bounds-others-other-index
offset_bounds-others-other-index g c = c.loop-other.auto.other-index-end

pub bounds-others-other-index : goal.bounds-others-other-index
bounds-others-other-index g c = c.loop-other-test.true

pub merged_counts-after-requires : goal.merged_counts-after-requires
merged_counts-after-requires g c =
    let others = c.args.others.now in
    let fits = c.well_formed in
    let one = ap (λ other. is_entry (clock_entry other)) c.other-item.is ∙ each-get others c.loop-other.other-index c.other-item.result c.loop-other-test.true c.requires.other_entries.each in
    (omega arith, (c.requires.own_entries, one))

pub loop-other-preserved : goal.loop-other-preserved
loop-other-preserved g c =
    let entries = clock_entries c.args.entries.now in
    let others = c.args.others.now in
    let at = c.loop-other.other-index in
    let other = c.other-item.result in
    let merged_rest = total (values_merged entries) (clock_entries (drop (at + 1) others)) in
    let replaced_rest = total (values_replaced entries) (clock_entries (drop (at + 1) others)) in
    let merged =
    total-next (values_merged entries) others at other c.loop-other-test.true
    ∙ ap (λ one. values_merged entries (clock_entry one) + merged_rest) (sym c.other-item.is)
    ∙ ap (λ n. n + merged_rest) (sym c.merged_counts-after.ensures.merged) in
    let replaced =
    total-next (values_replaced entries) others at other c.loop-other-test.true
    ∙ ap (λ one. values_replaced entries (clock_entry one) + replaced_rest) (sym c.other-item.is)
    ∙ ap (λ n. n + replaced_rest) (sym c.merged_counts-after.ensures.before) in (
      omega (arith, c.loop-other.invariant.0),
      (
        omega (arith, c.loop-other.invariant.1.0),
        (omega (arith, c.loop-other.invariant.1.1.0, merged), omega (arith, c.loop-other.invariant.1.1.1, replaced)),
      ),
    )

pub overflow_sub-result : goal.overflow_sub-result
overflow_sub-result g c =
    let entries = clock_entries c.args.entries.now in
    let others = clock_entries c.args.others.now in
    let merged = ap (λ rest. total (values_merged entries) (clock_entries rest)) (drop_of_length-le c.args.others.now c.loop-other-test.false) in
    let replaced = ap (λ rest. total (values_replaced entries) (clock_entries rest)) (drop_of_length-le c.args.others.now c.loop-other-test.false) in
    let left = total-merge_all others entries c.requires.other_entries c.requires.own_entries in
    omega (arith, c.loop-other.invariant.1.1.0, c.loop-other.invariant.1.1.1, merged, replaced, left)

pub returns : goal.returns
returns g c =
    let entries = clock_entries c.args.entries.now in
    let others = clock_entries c.args.others.now in
    let merged = ap (λ rest. total (values_merged entries) (clock_entries rest)) (drop_of_length-le c.args.others.now c.loop-other-test.false) in
    let replaced = ap (λ rest. total (values_replaced entries) (clock_entries rest)) (drop_of_length-le c.args.others.now c.loop-other-test.false) in
    let left = total-merge_all others entries c.requires.other_entries c.requires.own_entries in
    omega (arith, c.loop-other.invariant.1.1.0, c.loop-other.invariant.1.1.1, merged, replaced, left)

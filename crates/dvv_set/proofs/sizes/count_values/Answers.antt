use Rattle.std.proofs.Common.{◌+◌, ◌∙◌, sym, ap, arith, drop, length}
use Rattle.std.proofs.Math.ListN.{drop_of_length-le}
use Rattle.dvv_set.specs.Sizes.{total, values_in_entry}
use Rattle.dvv_set.specs.Stored.{clock_entries}
use Rattle.dvv_set.proofs.SyncSizes.{total-next}
use Rattle.dvv_set.proofs.sizes.count_values.Goals as goal

pub offset_bounds-entries-entry-index : goal.offset_bounds-entries-entry-index
offset_bounds-entries-entry-index g c = c.loop-entry.auto.entry-index-end

pub bounds-entries-entry-index : goal.bounds-entries-entry-index
bounds-entries-entry-index g c = c.loop-entry-test.true

pub loop-entry-preserved : goal.loop-entry-preserved
loop-entry-preserved g c =
    let entries = c.args.entries.now in
    let rest = total values_in_entry (clock_entries (drop (c.loop-entry.entry-index + 1) entries)) in
    let step =
    total-next values_in_entry entries c.loop-entry.entry-index c.entry-item.result c.loop-entry-test.true
    ∙ ap (λ entry. length entry.values.items + rest) (sym c.entry-item.is)
    ∙ ap (λ n. n + rest) (sym c.len.ensures) in
    (omega (arith, c.loop-entry.invariant.0), omega (arith, c.loop-entry.invariant.1, step))

pub returns-clause-counted : goal.returns-clause-counted
returns-clause-counted g c =
    omega (arith, c.loop-entry.invariant.1, ap (λ entries. total values_in_entry (clock_entries entries)) (drop_of_length-le c.args.entries.now c.loop-entry-test.false))

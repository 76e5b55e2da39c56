use Rattle.std.proofs.Common.{◌+◌, ◌-◌, ◌∙◌, sym, arith, length}
use Rattle.std.specs.Prelude.{min}
use Rattle.dvv_set.specs.Stored.{clock_entry}
use Rattle.dvv_set.proofs.ClockEntries.{is_entry-within}
use Rattle.dvv_set.proofs.SyncSizes.{length-merged-own, length-merged-other}
use Rattle.dvv_set.proofs.sizes.count_merged.Goals as goal

pub overflow_sub-kept : goal.overflow_sub-kept
overflow_sub-kept g c = c.if-other-own.true

pub overflow_add-kept : goal.overflow_add-kept
overflow_add-kept g c =
    let within = is_entry-within c.args.other.now.pair.counter (length c.args.other.now.values.items) c.requires.other_entry in
    omega (arith, within, c.len-other_values.ensures)

pub overflow_sub-kept-2 : goal.overflow_sub-kept-2
overflow_sub-kept-2 g c = omega (arith, c.if-other-own.false)

pub overflow_add-kept-2 : goal.overflow_add-kept-2
overflow_add-kept-2 g c =
    let within = is_entry-within c.args.own.now.pair.counter (length c.args.own.now.values.items) c.requires.own_entry in
    omega (arith, within, c.len-own_values.ensures)

pub returns-then-other-own : goal.returns-then-other-own
returns-then-other-own g c =
    let own = clock_entry c.args.own.now in
    let other = clock_entry c.args.other.now in
    c.min.ensures
    ∙ (λ i. min (c.len-own_values.ensures i) (own.1.0 - other.1.0 + c.len-other_values.ensures i))
    ∙ sym (length-merged-own own.1 other.1 c.if-other-own.true)

pub returns : goal.returns
returns g c =
    let own = clock_entry c.args.own.now in
    let other = clock_entry c.args.other.now in
    c.min-2.ensures
    ∙ (λ i. min (c.len-other_values.ensures i) (other.1.0 - own.1.0 + c.len-own_values.ensures i))
    ∙ sym (length-merged-other own.1 other.1 c.if-other-own.false)

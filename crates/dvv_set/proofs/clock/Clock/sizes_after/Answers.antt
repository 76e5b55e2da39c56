use Rattle.std.proofs.Common.{◌+◌, ◌∙◌, sym, ap, arith, length}
use Rattle.dvv_set.specs.Clocks.{sync}
use Rattle.dvv_set.specs.ClockEntries.{count_new, merge_all}
use Rattle.dvv_set.specs.Sizes.{total, values_in_entry}
use Rattle.dvv_set.specs.Stored.{clock_entries}
use Rattle.dvv_set.proofs.Stored.{length-clock_entries}
use Rattle.dvv_set.proofs.Counts.{count_new-within, length-sync}
use Rattle.dvv_set.proofs.SyncSizes.{length-live-sync}
use Rattle.dvv_set.proofs.clock.Clock.sizes_after.Goals as goal

pub deref-entries-requires : goal.deref-entries-requires
deref-entries-requires g c = omega arith

pub deref-others-requires : goal.deref-others-requires
deref-others-requires g c = omega arith

pub merged_values-requires : goal.merged_values-requires
merged_values-requires g c =
    let own = c.deref-entries.ensures in
    let other = c.deref-others.ensures in
    let fits = c.well_formed in
    (omega arith, (rw own c.self.invariant.entries, (rw other c.other.invariant.entries, (rw own c.self.invariant.few, rw other c.other.invariant.few))))

pub count_new-requires : goal.count_new-requires
count_new-requires g c = let fits = c.well_formed in omega arith

pub overflow_add-result : goal.overflow_add-result
overflow_add-result g c =
    let own = c.self.inside.entries.items in
    let others = c.other.inside.entries.items in
    let counted = c.count_new.ensures ∙ (λ i. count_new (clock_entries (c.deref-others.ensures i)) (clock_entries (c.deref-entries.ensures i))) in
    let within = count_new-within (clock_entries others) (clock_entries own) in
    omega (arith, counted, within, length-clock_entries others, ap length c.deref-entries.ensures, c.self.invariant.few, c.other.invariant.few)

pub returns-clause-siblings : goal.returns-clause-siblings
returns-clause-siblings g c =
    let own = clock_entries c.self.inside.entries.items in
    let others = clock_entries c.other.inside.entries.items in
    c.merged_values.ensures
    ∙ (λ i. total values_in_entry (merge_all (clock_entries (c.deref-others.ensures i)) (clock_entries (c.deref-entries.ensures i))))
    ∙ sym (length-live-sync own others c.self.invariant.entries c.other.invariant.entries)
    ∙ (λ i. length (sync (c.self.view_is i).meaning (c.other.view_is i).meaning).live)

pub returns-clause-actors : goal.returns-clause-actors
returns-clause-actors g c =
    let own = c.self.inside.entries.items in
    let others = c.other.inside.entries.items in
    let counted = c.count_new.ensures ∙ (λ i. count_new (clock_entries (c.deref-others.ensures i)) (clock_entries (c.deref-entries.ensures i))) in
    (λ i. length (c.deref-entries.ensures i) + counted i)
    ∙ (λ i. sym (length-clock_entries own) i + count_new (clock_entries others) (clock_entries own))
    ∙ sym (length-sync (clock_entries own) (clock_entries others) c.self.invariant.entries c.other.invariant.entries)
    ∙ (λ i. length (sync (c.self.view_is i).meaning (c.other.view_is i).meaning).known)

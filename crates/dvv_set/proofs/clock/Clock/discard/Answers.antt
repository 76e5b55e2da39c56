use Rattle.std.proofs.Common.{◌+◌, ◌∙◌, sym, ap, arith, length}
use Rattle.actor_epoch.specs.Contexts.{is_well_formed}
use Rattle.dvv_set.specs.Clocks.{discard}
use Rattle.dvv_set.specs.ClockEntries.{dot_state_of, merge_all, count_new, entries_of_pairs}
use Rattle.dvv_set.specs.Stored.{clock_entries}
use Rattle.dvv_set.proofs.Stored.{length-clock_entries}
use Rattle.dvv_set.proofs.Merges.{AreEntries-merge_all}
use Rattle.dvv_set.proofs.Events.{AreEntries-pairs}
use Rattle.dvv_set.proofs.Counts.{length-discard, count_new-pairs-within, dot_state_of-discard, length-merge_all}
use Rattle.dvv_set.proofs.Rooms.{few_pairs, within_same, full_same}
use Rattle.dvv_set.proofs.clock.Clock.discard.Goals as goal

pub reserve_actors-requires : goal.reserve_actors-requires
reserve_actors-requires g c =
    let own = c.self.inside.entries.items in
    let pairs = c.args.context.now in
    let counted = c.count_new_pairs-new.ensures.counted ∙ (λ i. count_new (entries_of_pairs {V = g.row.V.Denot} (c.pairs.ensures.pairs i)) (clock_entries (c.deref.ensures i))) in
    let fits = c.well_formed in
    (omega arith, (omega arith, (c.self.invariant.few, few_pairs _ _ counted (count_new-pairs-within g.row.V.Denot pairs (clock_entries own) c.pairs.ensures.of_form))))

pub returns-in-Err-clause-full : goal.returns-in-Err-clause-full
returns-in-Err-clause-full g c =
    let own = c.self.inside.entries.items in
    let pairs = c.args.context.now in
    let counted = c.count_new_pairs-new.ensures.counted ∙ (λ i. count_new (entries_of_pairs {V = g.row.V.Denot} (c.pairs.ensures.pairs i)) (clock_entries (c.deref.ensures i))) in
    let total =
    (λ i. length (discard pairs (sym c.self.view_is i).meaning).known)
    ∙ length-discard (clock_entries own) pairs c.self.invariant.entries c.pairs.ensures.of_form
    ∙ (λ i. length-clock_entries own i + sym counted i) in
    full_same _ _ _ _ total c.in-Err.ensures.full

pub merge_pairs-requires : goal.merge_pairs-requires
merge_pairs-requires g c =
    let own = c.self.inside.entries.items in
    let pairs = c.args.context.now in
    let counted = c.count_new_pairs-new.ensures.counted ∙ (λ i. count_new (entries_of_pairs {V = g.row.V.Denot} (c.pairs.ensures.pairs i)) (clock_entries (c.deref.ensures i))) in
    let form = AreEntries-pairs g.row.V.Denot pairs c.pairs.ensures.of_form in
    let long =
    (λ i. length (merge_all (entries_of_pairs (c.pairs-2.ensures.pairs i)) (clock_entries (c.in_default.ensures.unchanged i))))
    ∙ length-merge_all (entries_of_pairs pairs) (clock_entries own) form c.self.invariant.entries
    ∙ (λ i. length-clock_entries own i + sym counted i) in
    let fits = c.well_formed in
    (omega arith, (omega arith, (rw c.in_default.ensures.unchanged c.self.invariant.entries, (ap is_well_formed c.pairs-2.ensures.pairs ∙ c.pairs-2.ensures.of_form, within_same _ _ _ long c.in_default.ensures.ok.1))))

pub invariant_of-self-2 : goal.invariant_of-self-2
invariant_of-self-2 g c =
    let own = c.self.inside.entries.items in
    let pairs = c.args.context.now in
    let counted = c.count_new_pairs-new.ensures.counted ∙ (λ i. count_new (entries_of_pairs {V = g.row.V.Denot} (c.pairs.ensures.pairs i)) (clock_entries (c.deref.ensures i))) in
    let merged_in =
    c.merge_pairs.ensures.merged_in
    ∙ (λ i. merge_all (entries_of_pairs (c.pairs-2.ensures.pairs i)) (clock_entries (c.in_default.ensures.unchanged i))) in
    let form = AreEntries-pairs g.row.V.Denot pairs c.pairs.ensures.of_form in
    let long =
    sym (length-clock_entries c.merge_pairs.new.entries.items) ∙ ap length merged_in
    ∙ length-merge_all (entries_of_pairs pairs) (clock_entries own) form c.self.invariant.entries
    ∙ (λ i. length-clock_entries own i + sym counted i) in
    record {
      entries = rw merged_in (AreEntries-merge_all (entries_of_pairs pairs) (clock_entries own) form c.self.invariant.entries);
      few = within_same _ _ _ long c.in_default.ensures.ok.0;
    }

pub returns-clause-discarded : goal.returns-clause-discarded
returns-clause-discarded g c =
    let own = c.self.inside.entries.items in
    let pairs = c.args.context.now in
    let merged_in =
    c.merge_pairs.ensures.merged_in
    ∙ (λ i. merge_all (entries_of_pairs (c.pairs-2.ensures.pairs i)) (clock_entries (c.in_default.ensures.unchanged i))) in
    ap dot_state_of merged_in
    ∙ dot_state_of-discard (clock_entries own) pairs c.self.invariant.entries c.pairs.ensures.of_form
    ∙ (λ i. discard pairs (c.self.view_is i).meaning)

pub returns-clause-within : goal.returns-clause-within
returns-clause-within g c =
    let own = c.self.inside.entries.items in
    let pairs = c.args.context.now in
    let counted = c.count_new_pairs-new.ensures.counted ∙ (λ i. count_new (entries_of_pairs {V = g.row.V.Denot} (c.pairs.ensures.pairs i)) (clock_entries (c.deref.ensures i))) in
    let total =
    (λ i. length (discard pairs (sym c.self.view_is i).meaning).known)
    ∙ length-discard (clock_entries own) pairs c.self.invariant.entries c.pairs.ensures.of_form
    ∙ (λ i. length-clock_entries own i + sym counted i) in
    within_same _ _ _ total c.in_default.ensures.ok.0

pub invariant_of-self : goal.invariant_of-self
invariant_of-self g c = record {
  entries = rw c.in-Err.ensures.unchanged c.self.invariant.entries;
  few = within_same _ _ _ (ap length c.in-Err.ensures.unchanged) c.self.invariant.few;
}

pub returns-in-Err-clause-never : goal.returns-in-Err-clause-never
returns-in-Err-clause-never g c = c.in-Err.ensures.never

pub count_new_pairs-new-requires : goal.count_new_pairs-new-requires
count_new_pairs-new-requires g c = let fits = c.well_formed in (omega arith, (rw c.deref.ensures c.self.invariant.entries.sorted, ap is_well_formed c.pairs.ensures.pairs ∙ c.pairs.ensures.of_form))

pub returns-in-Err-clause-refused : goal.returns-in-Err-clause-refused
returns-in-Err-clause-refused g c = ap (λ items. dot_state_of (clock_entries items)) c.in-Err.ensures.unchanged ∙ ap (λ held. held.meaning) c.self.view_is

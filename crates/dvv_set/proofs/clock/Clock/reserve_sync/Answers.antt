use Rattle.std.proofs.Common.{◌+◌, ◌∙◌, sym, ap, arith, length}
use Rattle.dvv_set.specs.Clocks.{sync}
use Rattle.dvv_set.specs.ClockEntries.{dot_state_of, count_new}
use Rattle.dvv_set.specs.Stored.{clock_entries}
use Rattle.dvv_set.proofs.Stored.{length-clock_entries}
use Rattle.dvv_set.proofs.Counts.{count_new-within, length-sync}
use Rattle.dvv_set.proofs.Rooms.{few_more, within_same, full_same}
use Rattle.dvv_set.proofs.clock.Clock.reserve_sync.Goals as goal

pub reserve_actors-requires : goal.reserve_actors-requires
reserve_actors-requires g c =
    let own = c.self.inside.entries.items in
    let others = c.other.inside.entries.items in
    let counted = c.count_new-new.ensures ∙ (λ i. count_new (clock_entries (c.deref-2.ensures i)) (clock_entries (c.deref.ensures i))) in
    let fits = c.well_formed in
    (omega arith, (omega arith, (c.self.invariant.few, few_more _ _ _ _ counted (count_new-within (clock_entries others) (clock_entries own)) (length-clock_entries others) c.other.invariant.few)))

pub returns-in-Err-clause-unchanged : goal.returns-in-Err-clause-unchanged
returns-in-Err-clause-unchanged g c = ap (λ items. dot_state_of (clock_entries items)) c.in-Err.ensures.unchanged ∙ ap (λ held. held.meaning) c.self.view_is

pub returns-in-Err-clause-full : goal.returns-in-Err-clause-full
returns-in-Err-clause-full g c =
    let own = c.self.inside.entries.items in
    let others = c.other.inside.entries.items in
    let counted = c.count_new-new.ensures ∙ (λ i. count_new (clock_entries (c.deref-2.ensures i)) (clock_entries (c.deref.ensures i))) in
    let total =
    (λ i. length (sync (sym c.self.view_is i).meaning (sym c.other.view_is i).meaning).known)
    ∙ length-sync (clock_entries own) (clock_entries others) c.self.invariant.entries c.other.invariant.entries
    ∙ (λ i. length-clock_entries own i + sym counted i) in
    full_same _ _ _ _ total c.in-Err.ensures.full

pub returns-in-Err-clause-never : goal.returns-in-Err-clause-never
returns-in-Err-clause-never g c = c.in-Err.ensures.never

pub returns-clause-unchanged : goal.returns-clause-unchanged
returns-clause-unchanged g c = ap (λ items. dot_state_of (clock_entries items)) c.in_default.ensures.unchanged ∙ ap (λ held. held.meaning) c.self.view_is

pub returns-clause-ready : goal.returns-clause-ready
returns-clause-ready g c =
    let own = c.self.inside.entries.items in
    let others = c.other.inside.entries.items in
    let counted = c.count_new-new.ensures ∙ (λ i. count_new (clock_entries (c.deref-2.ensures i)) (clock_entries (c.deref.ensures i))) in
    let total =
    (λ i. length (sync (dot_state_of (clock_entries (c.in_default.ensures.unchanged i))) (sym c.other.view_is i).meaning).known)
    ∙ length-sync (clock_entries own) (clock_entries others) c.self.invariant.entries c.other.invariant.entries
    ∙ (λ i. length-clock_entries own i + sym counted i) in
    record { few = within_same _ _ _ total c.in_default.ensures.ok.0; actors = within_same _ _ _ total c.in_default.ensures.ok.1 }

pub invariant_of-self : goal.invariant_of-self
invariant_of-self g c = record {
  entries = rw c.in-Err.ensures.unchanged c.self.invariant.entries;
  few = within_same _ _ _ (ap length c.in-Err.ensures.unchanged) c.self.invariant.few;
}

pub invariant_of-self-2 : goal.invariant_of-self-2
invariant_of-self-2 g c = record {
  entries = rw c.in_default.ensures.unchanged c.self.invariant.entries;
  few = within_same _ _ _ (ap length c.in_default.ensures.unchanged) c.self.invariant.few;
}

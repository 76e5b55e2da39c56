use Rattle.std.proofs.Common.{◌∙◌, sym, ap, arith, length}
use Rattle.dvv_set.specs.Clocks.{sync}
use Rattle.dvv_set.specs.ClockEntries.{dot_state_of, merge_all}
use Rattle.dvv_set.specs.Stored.{clock_entries}
use Rattle.dvv_set.proofs.Stored.{length-clock_entries}
use Rattle.dvv_set.proofs.Live.{dot_state_of-merge_all}
use Rattle.dvv_set.proofs.Merges.{AreEntries-merge_all}
use Rattle.dvv_set.proofs.Counts.{length-known_of}
use Rattle.dvv_set.proofs.Rooms.{within_same, fits_same}
use Rattle.dvv_set.proofs.clock.Clock.sync_ready.Goals as goal

pub merge_all-requires : goal.merge_all-requires
merge_all-requires g c =
    let own = clock_entries c.self.inside.entries.items in
    let others = clock_entries c.other.inside.entries.items in
    let known =
    sym (length-known_of (merge_all others own))
    ∙ ap (λ m. length m.known) (dot_state_of-merge_all others own c.other.invariant.entries c.self.invariant.entries)
    ∙ (λ i. length (sync (c.self.view_is i).meaning (c.other.view_is i).meaning).known) in
    let room = ap (λ held. held.actors_room) c.self.view_is in
    let fits = c.well_formed in
    (omega arith, (omega arith, (c.self.invariant.entries, (c.other.invariant.entries, fits_same _ _ _ _ known room c.requires.actors))))

pub invariant_of-self : goal.invariant_of-self
invariant_of-self g c =
    let own = clock_entries c.self.inside.entries.items in
    let others = clock_entries c.other.inside.entries.items in
    let long =
    sym (length-clock_entries c.merge_all.new.entries.items) ∙ ap length c.merge_all.ensures.merged_in
    ∙ sym (length-known_of (merge_all others own))
    ∙ ap (λ m. length m.known) (dot_state_of-merge_all others own c.other.invariant.entries c.self.invariant.entries)
    ∙ (λ i. length (sync (c.self.view_is i).meaning (c.other.view_is i).meaning).known) in
    record {
      entries = rw c.merge_all.ensures.merged_in (AreEntries-merge_all others own c.other.invariant.entries c.self.invariant.entries);
      few = within_same _ _ _ long c.requires.few;
    }

pub returns : goal.returns
returns g c =
    let own = clock_entries c.self.inside.entries.items in
    let others = clock_entries c.other.inside.entries.items in
    ap dot_state_of c.merge_all.ensures.merged_in
    ∙ dot_state_of-merge_all others own c.other.invariant.entries c.self.invariant.entries
    ∙ (λ i. sync (c.self.view_is i).meaning (c.other.view_is i).meaning)

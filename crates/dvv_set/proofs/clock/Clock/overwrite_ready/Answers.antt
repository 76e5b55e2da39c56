use Rattle.std.proofs.Common.{◌∙◌, ap, arith, length, None}
use Rattle.std.specs.FinMap.Entries.{put}
use Rattle.actor_epoch.specs.Dots.{actor_cmp}
use Rattle.dvv_set.specs.Clocks.{event, discard}
use Rattle.dvv_set.specs.Held.{actors_after, counter_before, values_of}
use Rattle.dvv_set.specs.ClockEntries.{dot_state_of, entry_for, with_value}
use Rattle.dvv_set.specs.Stored.{clock_entries}
use Rattle.dvv_set.proofs.Stored.{length-clock_entries}
use Rattle.dvv_set.proofs.Emptied.{AreEntries-emptied, overwrite-counter, overwrite-length, overwrite-next, overwrite-meaning}
use Rattle.dvv_set.proofs.Rooms.{room-each}
use Rattle.dvv_set.proofs.clock.Clock.overwrite_ready.Goals as goal

pub put_value-requires : goal.put_value-requires
put_value-requires g c =
    let own = clock_entries c.self.inside.entries.items in
    let last = ap (λ entries. (entry_for c.args.actor entries).0) c.drop_values.ensures.emptied ∙ overwrite-counter own c.args.actor c.self.invariant.entries in
    let counter = ap (λ held. counter_before held.meaning.known None c.args.actor) c.self.view_is in
    let room = ap (λ held. held.values_room) c.self.view_is in
    let is = ap (λ entries. length (put actor_cmp c.args.actor (with_value c.args.value (entry_for c.args.actor entries)) entries)) c.drop_values.ensures.emptied in
    let long = overwrite-length own c.args.actor c.args.value c.self.invariant.entries in
    let same = ap (λ held. actors_after held.meaning.known None c.args.actor) c.self.view_is in
    let fits = ap (λ held. held.actors_room) c.self.view_is in
    let size = c.well_formed in (
      omega arith,
      (
        omega arith,
        (
          rw c.drop_values.ensures.emptied (AreEntries-emptied own c.self.invariant.entries),
          (
            omega (arith, last, counter, c.requires.counter),
            (
              c.drop_values.ensures.rooms (room-each c.self.inside.entries.items (length (values_of c.args.actor c.args.self.now.meaning.live)) (omega (arith, room, c.requires.values))),
              omega (arith, is, long, same, fits, c.requires.actors, c.drop_values.ensures.capacity),
            ),
          ),
        ),
      ),
    )

pub invariant_of-self : goal.invariant_of-self
invariant_of-self g c =
    let own = clock_entries c.self.inside.entries.items in
    let put_is =
    c.put_value.ensures
    ∙ ap (λ entries. put actor_cmp c.args.actor (with_value c.args.value (entry_for c.args.actor entries)) entries) c.drop_values.ensures.emptied in
    let long = ap length put_is ∙ overwrite-length own c.args.actor c.args.value c.self.invariant.entries in
    let same = ap (λ held. actors_after held.meaning.known None c.args.actor) c.self.view_is in
    record {
      entries = rw put_is (overwrite-next own c.args.actor c.args.value c.self.invariant.entries);
      few = omega (arith, long, same, length-clock_entries c.put_value.new.entries.items, c.requires.few);
    }

pub returns : goal.returns
returns g c =
    let own = clock_entries c.self.inside.entries.items in
    let put_is =
    c.put_value.ensures
    ∙ ap (λ entries. put actor_cmp c.args.actor (with_value c.args.value (entry_for c.args.actor entries)) entries) c.drop_values.ensures.emptied in
    ap dot_state_of put_is
    ∙ overwrite-meaning own c.args.actor c.args.value c.self.invariant.entries (omega (arith, c.self.invariant.few, length-clock_entries c.self.inside.entries.items))
    ∙ ap (λ held. event c.args.actor c.args.value (discard held.meaning.known held.meaning)) c.self.view_is

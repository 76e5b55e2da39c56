use Rattle.std.proofs.Common.{◌∙◌, ap, arith, length}
use Rattle.std.specs.Option.{option_map}
use Rattle.std.specs.FinMap.Entries.{put}
use Rattle.actor_epoch.specs.Dots.{actor_cmp, counter_in}
use Rattle.dvv_set.specs.Clocks.{event}
use Rattle.dvv_set.specs.Held.{without, known_with, known_after, values_of}
use Rattle.dvv_set.specs.ClockEntries.{dot_state_of, entry_for, with_value}
use Rattle.dvv_set.specs.Stored.{clock_entries}
use Rattle.dvv_set.proofs.Stored.{length-clock_entries}
use Rattle.dvv_set.proofs.Ready.{ready-entries, ready-next, ready-counter, ready-length, ready-room, ready-meaning}
use Rattle.dvv_set.proofs.Rooms.{room-each}
use Rattle.dvv_set.proofs.Soles.{counter-sole, put-sole}
use Rattle.dvv_set.proofs.clock.Clock.put_ready.Goals as goal

pub put_sole-requires : goal.put_sole-requires
put_sole-requires g c =
    let own = clock_entries c.self.inside.entries.items in
    let pairs = option_map (λ context. context.now) c.args.context in
    let sole = rw c.deref.ensures at c.in-Some.ensures.sole in
    let counter = ap (λ held. counter_in (known_with pairs held.meaning.known) c.args.actor) c.self.view_is in
    let room = ap (λ held. held.values_room) c.self.view_is in
    let one = ap length sole.is in
    let size = c.well_formed in (
      omega arith,
      (
        omega arith,
        (
          omega (arith, one, length-clock_entries c.self.inside.entries.items),
          (
            λ entry is. (let last = counter-sole own pairs c.args.actor _ c.requires.of_form c.self.invariant.entries sole entry is in omega (arith, last, counter, c.requires.counter)),
            room-each c.self.inside.entries.items (length (values_of c.args.actor c.args.self.now.meaning.live)) (omega (arith, room, c.requires.values)),
          ),
        ),
      ),
    )

pub merge_context-requires : goal.merge_context-requires
merge_context-requires g c =
    let own = clock_entries c.self.inside.entries.items in
    let pairs = option_map (λ context. context.now) c.args.context in
    let room = ready-room own pairs c.requires.of_form c.self.invariant.entries c.args.actor c.args.value in
    let same = ap (λ held. length (known_after c.args.actor (known_with pairs held.meaning.known))) c.self.view_is in
    let fits = ap (λ held. held.actors_room) c.self.view_is in
    let size = c.well_formed in
    (omega arith, (omega arith, (c.self.invariant.entries, omega (arith, room, same, fits, c.requires.actors))))

pub put_value-requires : goal.put_value-requires
put_value-requires g c =
    let own = clock_entries c.self.inside.entries.items in
    let pairs = option_map (λ context. context.now) c.args.context in
    let merged_in = c.merge_context.ensures.merged_in in
    let last = ap (λ entries. (entry_for c.args.actor entries).0) merged_in ∙ ready-counter own pairs c.requires.of_form c.self.invariant.entries c.args.actor in
    let counter = ap (λ held. counter_in (known_with pairs held.meaning.known) c.args.actor) c.self.view_is in
    let room = ap (λ held. held.values_room) c.self.view_is in
    let is = ap (λ entries. length (put actor_cmp c.args.actor (with_value c.args.value (entry_for c.args.actor entries)) entries)) merged_in in
    let long = ready-length own pairs c.requires.of_form c.self.invariant.entries c.args.actor c.args.value in
    let same = ap (λ held. length (known_after c.args.actor (known_with pairs held.meaning.known))) c.self.view_is in
    let fits = ap (λ held. held.actors_room) c.self.view_is in
    let size = c.well_formed in (
      omega arith,
      (
        omega arith,
        (
          rw merged_in (ready-entries own pairs c.requires.of_form c.self.invariant.entries),
          (
            omega (arith, last, counter, c.requires.counter),
            (
              c.merge_context.ensures.rooms (room-each c.self.inside.entries.items (length (values_of c.args.actor c.args.self.now.meaning.live)) (omega (arith, room, c.requires.values))),
              omega (arith, is, long, same, fits, c.requires.actors, c.merge_context.ensures.capacity),
            ),
          ),
        ),
      ),
    )

pub invariant_of-self : goal.invariant_of-self
invariant_of-self g c =
    let own = clock_entries c.self.inside.entries.items in
    let pairs = option_map (λ context. context.now) c.args.context in
    let put_is = c.put_sole.ensures ∙ put-sole own pairs c.args.actor _ c.args.value c.self.invariant.entries (rw c.deref.ensures at c.in-Some.ensures.sole) in
    let long = ap length put_is ∙ ready-length own pairs c.requires.of_form c.self.invariant.entries c.args.actor c.args.value in
    let same = ap (λ held. length (known_after c.args.actor (known_with pairs held.meaning.known))) c.self.view_is in
    record {
      entries = rw put_is (ready-next own pairs c.requires.of_form c.self.invariant.entries c.args.actor c.args.value);
      few = omega (arith, long, same, length-clock_entries c.put_sole.new.entries.items, c.requires.few);
    }

pub returns-in-Some : goal.returns-in-Some
returns-in-Some g c =
    let own = clock_entries c.self.inside.entries.items in
    let pairs = option_map (λ context. context.now) c.args.context in
    let put_is = c.put_sole.ensures ∙ put-sole own pairs c.args.actor _ c.args.value c.self.invariant.entries (rw c.deref.ensures at c.in-Some.ensures.sole) in
    ap dot_state_of put_is
    ∙ ready-meaning own pairs c.requires.of_form c.self.invariant.entries c.args.actor c.args.value
    ∙ ap (λ held. event c.args.actor c.args.value (without pairs held.meaning)) c.self.view_is

pub invariant_of-self-2 : goal.invariant_of-self-2
invariant_of-self-2 g c =
    let own = clock_entries c.self.inside.entries.items in
    let pairs = option_map (λ context. context.now) c.args.context in
    let put_is =
    c.put_value.ensures
    ∙ ap (λ entries. put actor_cmp c.args.actor (with_value c.args.value (entry_for c.args.actor entries)) entries) c.merge_context.ensures.merged_in in
    let long = ap length put_is ∙ ready-length own pairs c.requires.of_form c.self.invariant.entries c.args.actor c.args.value in
    let same = ap (λ held. length (known_after c.args.actor (known_with pairs held.meaning.known))) c.self.view_is in
    record {
      entries = rw put_is (ready-next own pairs c.requires.of_form c.self.invariant.entries c.args.actor c.args.value);
      few = omega (arith, long, same, length-clock_entries c.put_value.new.entries.items, c.requires.few);
    }

pub returns : goal.returns
returns g c =
    let own = clock_entries c.self.inside.entries.items in
    let pairs = option_map (λ context. context.now) c.args.context in
    let put_is =
    c.put_value.ensures
    ∙ ap (λ entries. put actor_cmp c.args.actor (with_value c.args.value (entry_for c.args.actor entries)) entries) c.merge_context.ensures.merged_in in
    ap dot_state_of put_is
    ∙ ready-meaning own pairs c.requires.of_form c.self.invariant.entries c.args.actor c.args.value
    ∙ ap (λ held. event c.args.actor c.args.value (without pairs held.meaning)) c.self.view_is

use Rattle.std.proofs.Common.{ap, arith, length}
use Rattle.std.proofs.lemmas.Result.{on_ok_weaker}
use Rattle.dvv_set.specs.Held.{pairs_of, actors_after, counter_before}
use Rattle.dvv_set.specs.ClockEntries.{known_of}
use Rattle.dvv_set.proofs.Stored.{length-clock_entries}
use Rattle.dvv_set.proofs.Rooms.{each-room}
use Rattle.dvv_set.proofs.clock.Clock.reserve.Goals as goal

pub invariant_of-self : goal.invariant_of-self
invariant_of-self g c =
    let same = c.reserve_room.ensures.same in
    record {
      entries = rw same c.self.invariant.entries;
      few = omega (arith, ap length same, length-clock_entries c.reserve_room.new.entries.items, length-clock_entries c.self.inside.entries.items, c.self.invariant.few);
    }

pub returns-clause-ready : goal.returns-clause-ready
returns-clause-ready g c =
    let pairs = pairs_of c.args.context in
    let same = c.reserve_room.ensures.same in
    let long = ap (λ entries. actors_after (known_of entries) pairs c.args.actor) same in
    let last = ap (λ entries. counter_before (known_of entries) pairs c.args.actor) same in
    let few = ap (λ held. actors_after held.meaning.known pairs c.args.actor) c.self.view_is in
    let counter = ap (λ held. counter_before held.meaning.known pairs c.args.actor) c.self.view_is in
    let more = rw c.deref.ensures at c.more_entries-more.ensures.enough in
    let room = c.capacity-room.ensures in
    let grown = c.reserve_room.ensures.capacity in
    on_ok_weaker c.reserve_room.result (λ made. record {
      of_form = c.more_entries-more.ensures.of_form;
      few = omega (arith, long, few, c.requires.few);
      counter = omega (arith, last, counter, c.requires.counter);
      actors = omega (arith, long, more, room, grown, made.0);
      values = each-room c.reserve_room.new.entries.items c.args.actor made.1;
    }) c.reserve_room.ensures.room

pub deref-requires : goal.deref-requires
deref-requires g c = omega arith

pub capacity-room-requires : goal.capacity-room-requires
capacity-room-requires g c = omega arith

pub more_entries-more-requires : goal.more_entries-more-requires
more_entries-more-requires g c = (omega arith, (rw c.deref.ensures c.self.invariant.entries, rw c.deref.ensures c.self.invariant.few))

pub reserve_room-requires : goal.reserve_room-requires
reserve_room-requires g c = (omega arith, omega arith)

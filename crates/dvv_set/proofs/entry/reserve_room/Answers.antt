use Rattle.std.proofs.Common.{◌<◌, ◌+◌, ◌∙◌, ◌≤◌, length, arith, ap, sym, refl}
use Rattle.std.specs.Prelude.{nat_lt}
use Rattle.std.specs.List.{list_all}
use Rattle.std.proofs.lemmas.List.{length-set, take_all}
use Rattle.dvv_set.specs.Stored.{actor_of, clock_entry, clock_entries, has_room}
use Rattle.dvv_set.proofs.Rooms.{above_room, rooms-next, clock_entries-same}
use Rattle.dvv_set.proofs.entry.reserve_room.Goals as goal

pub loop-at-init : goal.loop-at-init
loop-at-init g c = record { same = refl; length = refl; capacity = refl; rooms = refl }

pub unreachable-requires : goal.unreachable-requires
unreachable-requires g c =
    let some = c.in-None.ensures.variant.1 (omega (arith, c.loop-at-test.true, c.len-at-end.ensures, c.loop-at.invariant.length)) in
    cc

pub returns-in_err-reserve-in-Some-clause-same : goal.returns-in_err-reserve-in-Some-clause-same
returns-in_err-reserve-in-Some-clause-same g c =
    let here = c.in-Some.entry.now in
    clock_entries-same c.loop-at.entries.items c.loop-at.at here _ ((λ i. (actor_of here.pair, (here.pair.counter, c.reserve-in-Some.ensures.items i))) ∙ ap clock_entry c.in-Some.ensures.value)
    ∙ c.loop-at.invariant.same ∙ ap clock_entries c.reserve.ensures.items

pub loop-at-preserved : goal.loop-at-preserved
loop-at-preserved g c =
    let here = c.in-Some.entry.now in
    let within : c.loop-at.at < length c.loop-at.entries.items = omega (arith, c.loop-at-test.true, c.len-at-end.ensures, c.loop-at.invariant.length) in
    let room : length here.values.items + 1 ≤ c.reserve-in-Some.new.self.capacity = c.in_ok-reserve-in-Some.ensures.ok in
    record {
      same =
          clock_entries-same c.loop-at.entries.items c.loop-at.at here _ ((λ i. (actor_of here.pair, (here.pair.counter, c.reserve-in-Some.ensures.items i))) ∙ ap clock_entry c.in-Some.ensures.value)
          ∙ c.loop-at.invariant.same;
      length = length-set c.loop-at.entries.items c.loop-at.at _ ∙ c.loop-at.invariant.length;
      capacity = c.loop-at.invariant.capacity;
      rooms = rooms-next c.loop-at.entries.items c.loop-at.at _ within (ap (λ values. nat_lt (length values) c.reserve-in-Some.new.self.capacity) c.reserve-in-Some.ensures.items ∙ above_room _ _ room) c.loop-at.invariant.rooms;
    }

pub returns-clause-same : goal.returns-clause-same
returns-clause-same g c = c.loop-at.invariant.same ∙ ap clock_entries c.reserve.ensures.items

pub returns-clause-room : goal.returns-clause-room
returns-clause-room g c =
    let entries = c.loop-at.entries.items in
    let within : length entries ≤ c.loop-at.at = omega (arith, c.loop-at-test.false, c.len-at-end.ensures, c.loop-at.invariant.length) in
    (omega (arith, c.in_ok-reserve.ensures.ok, c.loop-at.invariant.capacity), ap (list_all has_room) (sym (take_all c.loop-at.at entries within)) ∙ c.loop-at.invariant.rooms)

pub returns-clause-capacity : goal.returns-clause-capacity
returns-clause-capacity g c = omega (arith, c.reserve.ensures.capacity, c.loop-at.invariant.capacity)

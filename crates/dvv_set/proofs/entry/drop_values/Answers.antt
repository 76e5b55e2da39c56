use Rattle.std.proofs.Common.{◌≡◌, ◌<◌, ◌∙◌, length, arith, ap}
use Rattle.std.specs.Prelude.{nat_lt}
use Rattle.std.proofs.lemmas.List.{length-set}
use Rattle.dvv_set.specs.ClockEntries.{emptied}
use Rattle.dvv_set.specs.Stored.{actor_of, clock_entry, clock_entries, has_room}
use Rattle.dvv_set.proofs.Stored.{length-clock_entries}
use Rattle.dvv_set.proofs.Emptied.{emptied_to, emptied_to-all, set-emptied_next}
use Rattle.dvv_set.proofs.Rooms.{room_fewer, rooms-get, rooms-set}
use Rattle.dvv_set.proofs.entry.drop_values.Goals as goal

pub unreachable-requires : goal.unreachable-requires
unreachable-requires g c =
    let some = c.in-None.ensures.variant.1 (omega (arith, c.loop-at-test.true, c.len-at-end.ensures, c.loop-at.invariant.length)) in
    cc

pub truncate-requires : goal.truncate-requires
truncate-requires g c = let fits = c.well_formed in omega arith

pub loop-at-preserved : goal.loop-at-preserved
loop-at-preserved g c =
    let here = c.in-Some.entry.now in
    let within : c.loop-at.at < length c.loop-at.entries.items = omega (arith, c.loop-at-test.true, c.len-at-end.ensures, c.loop-at.invariant.length) in
    record {
      entries = set-emptied_next c.loop-at.entries.items c.loop-at.at (clock_entries c.args.entries.now.items) here _ within c.loop-at.invariant.entries
          ((λ i. (actor_of here.pair, (here.pair.counter, c.truncate.ensures.items i))) ∙ ap (λ entry. emptied (clock_entry entry)) c.in-Some.ensures.value);
      length = length-set c.loop-at.entries.items c.loop-at.at _ ∙ c.loop-at.invariant.length;
      capacity = c.loop-at.invariant.capacity;
      rooms = λ all.
          let was = ap has_room c.in-Some.ensures.value ∙ rooms-get c.loop-at.entries.items c.loop-at.at here within (c.loop-at.invariant.rooms all) in
          rooms-set c.loop-at.entries.items c.loop-at.at _ ((λ i. nat_lt (length (c.truncate.ensures.items i)) (c.truncate.ensures.capacity i)) ∙ room_fewer (length here.values.items) 0 here.values.capacity (omega arith) was) (c.loop-at.invariant.rooms all);
    }

pub returns-clause-emptied : goal.returns-clause-emptied
returns-clause-emptied g c =
    let entries = clock_entries c.args.entries.now.items in
    let all : c.loop-at.at ≡ length entries = omega (arith, c.loop-at-test.false, c.loop-at.auto.at-end, c.len-at-end.ensures, length-clock_entries c.args.entries.now.items) in
    c.loop-at.invariant.entries ∙ ap (λ n. emptied_to n entries) all ∙ emptied_to-all entries

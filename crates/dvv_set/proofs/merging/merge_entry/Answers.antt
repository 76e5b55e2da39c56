use Rattle.std.proofs.Common.{◌∙◌, take, sym, ap, arith}
use Rattle.std.proofs.lemmas.List.{length-set}
use Rattle.dvv_set.specs.ClockEntries.{merged, entry_for}
use Rattle.dvv_set.specs.Stored.{actor_of, are_below, clock_entry, clock_entries, has_room, search_actor}
use Rattle.dvv_set.proofs.Stored.{taken-within, taken-entry, taken-put, free-within, free-length, free-merge_entry}
use Rattle.dvv_set.proofs.Ahead.{below-taken, below-free, insert-longer}
use Rattle.dvv_set.proofs.Rooms.{rooms-get, rooms-set, rooms-insert}
use Rattle.dvv_set.proofs.merging.merge_entry.Goals as goal

pub unreachable-requires : goal.unreachable-requires
unreachable-requires g c =
    let at = (λ i. search_actor (sym c.actor.ensures i) (clock_entries (sym c.deref.ensures i))) ∙ sym c.in-Taken.ensures in
    let some = c.in-None.ensures.variant.1 (taken-within c.args.entries.now.items (actor_of c.args.entry.pair) c.in-Taken.at at) in
    cc

pub merge-requires : goal.merge-requires
merge-requires g c =
    let at = (λ i. search_actor (sym c.actor.ensures i) (clock_entries (sym c.deref.ensures i))) ∙ sym c.in-Taken.ensures in
    let fits = c.well_formed in
    (omega arith, (taken-entry c.args.entries.now.items (actor_of c.args.entry.pair) c.in-Taken.at c.in-Some.own.now at c.in-Some.ensures.value c.requires.entries, c.requires.entry))

pub insert-requires : goal.insert-requires
insert-requires g c =
    let at = (λ i. search_actor (sym c.actor.ensures i) (clock_entries (sym c.deref.ensures i))) ∙ sym c.in-Free.ensures in
    let within = free-within c.args.entries.now.items (actor_of c.args.entry.pair) c.in-Free.at c.requires.sorted at in
    let more = free-length c.args.entries.now.items (actor_of c.args.entry.pair) c.in-Free.at (merged (entry_for (actor_of c.args.entry.pair) (clock_entries c.args.entries.now.items)) (clock_entry c.args.entry).1) c.requires.sorted at in
    let room = rw more at c.requires.room in
    let fits = c.well_formed in
    (omega arith, (within, omega arith))

pub returns-in-Some-clause-merged_in : goal.returns-in-Some-clause-merged_in
returns-in-Some-clause-merged_in g c =
    let at = (λ i. search_actor (sym c.actor.ensures i) (clock_entries (sym c.deref.ensures i))) ∙ sym c.in-Taken.ensures in
    taken-put c.args.entries.now.items (actor_of c.args.entry.pair) c.in-Taken.at c.in-Some.own.now c.merge.new.own (λ own. merged own (clock_entry c.args.entry).1) at c.in-Some.ensures.value c.merge.ensures.merged

pub returns-in-Some-clause-rooms : goal.returns-in-Some-clause-rooms
returns-in-Some-clause-rooms g c given all =
    let at = (λ i. search_actor (sym c.actor.ensures i) (clock_entries (sym c.deref.ensures i))) ∙ sym c.in-Taken.ensures in
    let within = taken-within c.args.entries.now.items (actor_of c.args.entry.pair) c.in-Taken.at at in
    let own = ap has_room c.in-Some.ensures.value ∙ rooms-get c.args.entries.now.items c.in-Taken.at c.in-Some.own.now within all in
    rooms-set c.args.entries.now.items c.in-Taken.at c.merge.new.own (c.merge.ensures.room own given) all

pub returns-in-Free-clause-merged_in : goal.returns-in-Free-clause-merged_in
returns-in-Free-clause-merged_in g c =
    let at = (λ i. search_actor (sym c.actor.ensures i) (clock_entries (sym c.deref.ensures i))) ∙ sym c.in-Free.ensures in
    ap clock_entries c.insert.ensures.inserted ∙ free-merge_entry c.args.entries.now.items c.in-Free.at c.args.entry c.requires.sorted c.requires.entry at

pub returns-in-Free-clause-rooms : goal.returns-in-Free-clause-rooms
returns-in-Free-clause-rooms g c given all = rw c.insert.ensures.inserted (rooms-insert c.args.entries.now.items c.in-Free.at c.args.entry given all)

pub deref-requires : goal.deref-requires
deref-requires g c = omega arith

pub search_behind-requires : goal.search_behind-requires
search_behind-requires g c =
    let below = (λ i. are_below (c.actor.ensures i) (clock_entries (take c.args.first (c.deref.ensures i)))) ∙ c.requires.below in
    (omega arith, (rw c.deref.ensures c.requires.within, below))

pub get_mut-requires : goal.get_mut-requires
get_mut-requires g c = omega arith

pub returns-in-Some-clause-within : goal.returns-in-Some-clause-within
returns-in-Some-clause-within g c =
    let at = (λ i. search_actor (sym c.actor.ensures i) (clock_entries (sym c.deref.ensures i))) ∙ sym c.in-Taken.ensures in
    let within = taken-within c.args.entries.now.items (actor_of c.args.entry.pair) c.in-Taken.at at in
    omega (arith, within, length-set c.args.entries.now.items c.in-Taken.at c.merge.new.own)

pub returns-in-Some-clause-below : goal.returns-in-Some-clause-below
returns-in-Some-clause-below g c actor less =
    let items = c.args.entries.now.items in
    let a = actor_of c.args.entry.pair in
    let at = (λ i. search_actor (sym c.actor.ensures i) (clock_entries (sym c.deref.ensures i))) ∙ sym c.in-Taken.ensures in
    below-taken a actor items c.in-Taken.at c.merge.new.own at less

pub returns-in-Free-clause-within : goal.returns-in-Free-clause-within
returns-in-Free-clause-within g c =
    let items = c.args.entries.now.items in
    let at = (λ i. search_actor (sym c.actor.ensures i) (clock_entries (sym c.deref.ensures i))) ∙ sym c.in-Free.ensures in
    let within = free-within items (actor_of c.args.entry.pair) c.in-Free.at c.requires.sorted at in
    rw c.insert.ensures.inserted (omega (arith, within, insert-longer items c.in-Free.at c.args.entry within))

pub returns-in-Free-clause-below : goal.returns-in-Free-clause-below
returns-in-Free-clause-below g c actor less =
    let items = c.args.entries.now.items in
    let at = (λ i. search_actor (sym c.actor.ensures i) (clock_entries (sym c.deref.ensures i))) ∙ sym c.in-Free.ensures in
    rw c.insert.ensures.inserted (below-free (actor_of c.args.entry.pair) actor items c.in-Free.at c.args.entry at less)

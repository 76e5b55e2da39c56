use Rattle.std.proofs.Common.{◌∙◌, [], take, sym, ap, arith}
use Rattle.std.proofs.lemmas.List.{length-set}
use Rattle.dvv_set.specs.ClockEntries.{is_entry, merged, merge_entry, entry_for}
use Rattle.dvv_set.specs.Stored.{are_below, clock_entries, has_room, search_actor}
use Rattle.dvv_set.proofs.Stored.{taken-within, taken-put, free-within, free-length, free-merge_entry}
use Rattle.dvv_set.proofs.Ahead.{below-taken, below-free, insert-longer}
use Rattle.dvv_set.proofs.Rooms.{rooms-get, rooms-set, rooms-insert}
use Rattle.dvv_set.proofs.Pairs.{is_entry-pair}
use Rattle.dvv_set.proofs.merging.merge_pair.Goals as goal

pub deref-requires : goal.deref-requires
deref-requires g c = omega arith

pub search_behind-requires : goal.search_behind-requires
search_behind-requires g c =
    let below = (λ i. are_below c.args.actor (clock_entries (take c.args.first (c.deref.ensures i)))) ∙ c.requires.below in
    (omega arith, (rw c.deref.ensures c.requires.within, below))

pub get_mut-requires : goal.get_mut-requires
get_mut-requires g c = omega arith

pub unreachable-requires : goal.unreachable-requires
unreachable-requires g c =
    let at = (λ i. search_actor c.args.actor (clock_entries (sym c.deref.ensures i))) ∙ sym c.in-Taken.ensures in
    let some = c.in-None.ensures.variant.1 (taken-within c.args.entries.now.items c.args.actor c.in-Taken.at at) in
    cc

pub cover-requires : goal.cover-requires
cover-requires g c = let fits = c.well_formed in omega arith

pub pair_entry-requires : goal.pair_entry-requires
pair_entry-requires g c = omega arith

pub insert-requires : goal.insert-requires
insert-requires g c =
    let at = (λ i. search_actor c.args.actor (clock_entries (sym c.deref.ensures i))) ∙ sym c.in-Free.ensures in
    let within = free-within c.args.entries.now.items c.args.actor c.in-Free.at c.requires.sorted at in
    let more = free-length c.args.entries.now.items c.args.actor c.in-Free.at (merged (entry_for c.args.actor (clock_entries c.args.entries.now.items)) (c.args.counter, [])) c.requires.sorted at in
    let room = rw more at c.requires.room in
    let fits = c.well_formed in
    (omega arith, (within, omega arith))

pub returns-in-Some-clause-merged_in : goal.returns-in-Some-clause-merged_in
returns-in-Some-clause-merged_in g c =
    let at = (λ i. search_actor c.args.actor (clock_entries (sym c.deref.ensures i))) ∙ sym c.in-Taken.ensures in
    taken-put c.args.entries.now.items c.args.actor c.in-Taken.at c.in-Some.own.now c.cover.new.own (λ own. merged own (c.args.counter, [])) at c.in-Some.ensures.value c.cover.ensures.merged

pub returns-in-Some-clause-rooms : goal.returns-in-Some-clause-rooms
returns-in-Some-clause-rooms g c all =
    let at = (λ i. search_actor c.args.actor (clock_entries (sym c.deref.ensures i))) ∙ sym c.in-Taken.ensures in
    let within = taken-within c.args.entries.now.items c.args.actor c.in-Taken.at at in
    let own = ap has_room c.in-Some.ensures.value ∙ rooms-get c.args.entries.now.items c.in-Taken.at c.in-Some.own.now within all in
    rooms-set c.args.entries.now.items c.in-Taken.at c.cover.new.own (c.cover.ensures.room own) all

pub returns-in-Free-clause-merged_in : goal.returns-in-Free-clause-merged_in
returns-in-Free-clause-merged_in g c =
    let at = (λ i. search_actor c.args.actor (clock_entries (sym c.deref.ensures i))) ∙ sym c.in-Free.ensures in
    let is = c.pair_entry.ensures.entry in
    let entries = c.args.entries.now.items in
    let its = ap (λ e. search_actor e.0 (clock_entries entries)) is ∙ at in
    ap clock_entries c.insert.ensures.inserted
    ∙ free-merge_entry entries c.in-Free.at c.pair_entry.result c.requires.sorted (ap is_entry is ∙ is_entry-pair c.args.counter c.requires.counter) its
    ∙ ap (λ e. merge_entry e (clock_entries entries)) is

pub returns-in-Free-clause-rooms : goal.returns-in-Free-clause-rooms
returns-in-Free-clause-rooms g c all = rw c.insert.ensures.inserted (rooms-insert c.args.entries.now.items c.in-Free.at c.pair_entry.result c.pair_entry.ensures.room all)

pub returns-in-Some-clause-within : goal.returns-in-Some-clause-within
returns-in-Some-clause-within g c =
    let at = (λ i. search_actor c.args.actor (clock_entries (sym c.deref.ensures i))) ∙ sym c.in-Taken.ensures in
    let within = taken-within c.args.entries.now.items c.args.actor c.in-Taken.at at in
    omega (arith, within, length-set c.args.entries.now.items c.in-Taken.at c.cover.new.own)

pub returns-in-Some-clause-below : goal.returns-in-Some-clause-below
returns-in-Some-clause-below g c next less =
    let items = c.args.entries.now.items in
    let at = (λ i. search_actor c.args.actor (clock_entries (sym c.deref.ensures i))) ∙ sym c.in-Taken.ensures in
    below-taken c.args.actor next items c.in-Taken.at c.cover.new.own at less

pub returns-in-Free-clause-within : goal.returns-in-Free-clause-within
returns-in-Free-clause-within g c =
    let items = c.args.entries.now.items in
    let at = (λ i. search_actor c.args.actor (clock_entries (sym c.deref.ensures i))) ∙ sym c.in-Free.ensures in
    let within = free-within items c.args.actor c.in-Free.at c.requires.sorted at in
    rw c.insert.ensures.inserted (omega (arith, within, insert-longer items c.in-Free.at c.pair_entry.result within))

pub returns-in-Free-clause-below : goal.returns-in-Free-clause-below
returns-in-Free-clause-below g c next less =
    let items = c.args.entries.now.items in
    let at = (λ i. search_actor c.args.actor (clock_entries (sym c.deref.ensures i))) ∙ sym c.in-Free.ensures in
    rw c.insert.ensures.inserted (below-free c.args.actor next items c.in-Free.at c.pair_entry.result at less)

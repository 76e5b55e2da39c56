use Rattle.std.proofs.Common.{◌∙◌, sym, ap, arith}
use Rattle.std.specs.FinMap.Entries.{put}
use Rattle.actor_epoch.specs.Dots.{actor_cmp}
use Rattle.dvv_set.specs.ClockEntries.{entry_for, with_value}
use Rattle.dvv_set.specs.Stored.{clock_entries, has_room, search_actor}
use Rattle.dvv_set.proofs.Stored.{taken-within, taken-is, taken-put, free-within, free-length, free-entry, free-put}
use Rattle.dvv_set.proofs.Rooms.{rooms-get}
use Rattle.dvv_set.proofs.entry.put_value.Goals as goal

pub unreachable-requires : goal.unreachable-requires
unreachable-requires g c =
    let at = ap (λ es. search_actor c.args.actor (clock_entries es)) (sym c.deref.ensures) ∙ sym c.in-Taken.ensures in
    let some = c.in-None.ensures.variant.1 (taken-within c.args.entries.now.items c.args.actor c.in-Taken.at at) in
    cc

pub add_value-requires : goal.add_value-requires
add_value-requires g c =
    let at = ap (λ es. search_actor c.args.actor (clock_entries es)) (sym c.deref.ensures) ∙ sym c.in-Taken.ensures in
    let within = taken-within c.args.entries.now.items c.args.actor c.in-Taken.at at in
    let is = ap (λ r. r.0) (taken-is c.args.entries.now.items c.args.actor c.in-Taken.at c.in-Some.entry.now at c.in-Some.ensures.value) in
    let fits = c.well_formed in
    (omega arith, (omega (arith, is, c.requires.counter), ap has_room c.in-Some.ensures.value ∙ rooms-get c.args.entries.now.items c.in-Taken.at c.in-Some.entry.now within c.requires.rooms))

pub insert-requires : goal.insert-requires
insert-requires g c =
    let at = ap (λ es. search_actor c.args.actor (clock_entries es)) (sym c.deref.ensures) ∙ sym c.in-Free.ensures in
    let within = free-within c.args.entries.now.items c.args.actor c.in-Free.at c.requires.entries.sorted at in
    let more = free-length c.args.entries.now.items c.args.actor c.in-Free.at (with_value c.args.value (entry_for c.args.actor (clock_entries c.args.entries.now.items))) c.requires.entries.sorted at in
    let room = rw more at c.requires.actors in
    let fits = c.well_formed in
    (omega arith, (within, omega arith))

pub returns-in-Some : goal.returns-in-Some
returns-in-Some g c =
    let at = ap (λ es. search_actor c.args.actor (clock_entries es)) (sym c.deref.ensures) ∙ sym c.in-Taken.ensures in
    taken-put c.args.entries.now.items c.args.actor c.in-Taken.at c.in-Some.entry.now c.add_value.new.entry (with_value c.args.value) at c.in-Some.ensures.value c.add_value.ensures

pub returns-in-Free : goal.returns-in-Free
returns-in-Free g c =
    let at = ap (λ es. search_actor c.args.actor (clock_entries es)) (sym c.deref.ensures) ∙ sym c.in-Free.ensures in
    let none = free-entry c.args.entries.now.items c.args.actor c.in-Free.at c.requires.entries.sorted at in
    ap clock_entries c.insert.ensures.inserted
    ∙ free-put c.args.entries.now.items c.args.actor c.in-Free.at c.first_entry.result c.requires.entries.sorted at (ap (λ entry. entry.0) c.first_entry.ensures)
    ∙ ap (λ entry. put actor_cmp c.args.actor entry (clock_entries c.args.entries.now.items)) (ap (λ entry. entry.1) c.first_entry.ensures ∙ ap (with_value c.args.value) (sym none))

use Rattle.std.proofs.Common.{◌∙◌, sym, ap, arith, length}
use Rattle.dvv_set.specs.ClockEntries.{merged}
use Rattle.dvv_set.specs.Stored.{actor_of, clock_entry, clock_entries, search_actor}
use Rattle.dvv_set.proofs.Stored.{taken-within, taken-entry, taken-is, free-entry}
use Rattle.dvv_set.proofs.SyncSizes.{length-merged-none}
use Rattle.dvv_set.proofs.sizes.merged_counts.Goals as goal

pub offset_bounds-entries-at : goal.offset_bounds-entries-at
offset_bounds-entries-at g c =
    let entries = c.args.entries.now in
    let at = ap (λ a. search_actor a (clock_entries entries)) (sym c.actor.ensures) ∙ sym c.in-Taken.ensures in
    let within = taken-within entries (actor_of c.args.other.now.pair) c.in-Taken.at at in
    omega (arith, within)

pub bounds-entries-at : goal.bounds-entries-at
bounds-entries-at g c =
    let entries = c.args.entries.now in
    let at = ap (λ a. search_actor a (clock_entries entries)) (sym c.actor.ensures) ∙ sym c.in-Taken.ensures in
    taken-within entries (actor_of c.args.other.now.pair) c.in-Taken.at at

pub count_merged-requires : goal.count_merged-requires
count_merged-requires g c =
    let entries = c.args.entries.now in
    let at = ap (λ a. search_actor a (clock_entries entries)) (sym c.actor.ensures) ∙ sym c.in-Taken.ensures in
    let fits = c.well_formed in
    (omega arith, (taken-entry entries (actor_of c.args.other.now.pair) c.in-Taken.at c.index-entries-at.result at c.index-entries-at.is c.requires.entries.each, c.requires.other_entry))

pub returns-in-Taken-clause-merged : goal.returns-in-Taken-clause-merged
returns-in-Taken-clause-merged g c =
    let entries = c.args.entries.now in
    let at = ap (λ a. search_actor a (clock_entries entries)) (sym c.actor.ensures) ∙ sym c.in-Taken.ensures in
    let is = taken-is entries (actor_of c.args.other.now.pair) c.in-Taken.at c.index-entries-at.result at c.index-entries-at.is in
    c.count_merged.ensures ∙ sym (ap (λ own. length (merged own (clock_entry c.args.other.now).1).1) is)

pub returns-in-Taken-clause-before : goal.returns-in-Taken-clause-before
returns-in-Taken-clause-before g c =
    let entries = c.args.entries.now in
    let at = ap (λ a. search_actor a (clock_entries entries)) (sym c.actor.ensures) ∙ sym c.in-Taken.ensures in
    let is = taken-is entries (actor_of c.args.other.now.pair) c.in-Taken.at c.index-entries-at.result at c.index-entries-at.is in
    c.len.ensures ∙ sym (ap (λ own. length own.1) is)

pub returns-in-Free-clause-merged : goal.returns-in-Free-clause-merged
returns-in-Free-clause-merged g c =
    let other = clock_entry c.args.other.now in
    let at = ap (λ a. search_actor a (clock_entries c.args.entries.now)) (sym c.actor.ensures) ∙ sym c.in-Free.ensures in
    let none = free-entry c.args.entries.now (actor_of c.args.other.now.pair) c.in-Free.field-0 c.requires.entries.sorted at in
    c.len-in-Free.ensures ∙ sym (ap (λ own. length (merged own other.1).1) none ∙ length-merged-none other c.requires.other_entry)

pub returns-in-Free-clause-before : goal.returns-in-Free-clause-before
returns-in-Free-clause-before g c =
    let at = ap (λ a. search_actor a (clock_entries c.args.entries.now)) (sym c.actor.ensures) ∙ sym c.in-Free.ensures in
    let none = free-entry c.args.entries.now (actor_of c.args.other.now.pair) c.in-Free.field-0 c.requires.entries.sorted at in
    sym (ap (λ own. length own.1) none)

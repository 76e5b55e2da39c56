use Rattle.std.proofs.Common.{◌+◌, ◌∙◌, [], sym, ap, arith, drop}
use Rattle.std.specs.Prelude.{unwrap_or}
use Rattle.std.proofs.Math.ListN.{drop_of_length-le}
use Rattle.actor_epoch.specs.Dots.{counter_in}
use Rattle.dvv_set.specs.Held.{pairs_of}
use Rattle.dvv_set.specs.ClockEntries.{count_uncovered, newer}
use Rattle.dvv_set.specs.Stored.{actor_of, clock_entry, clock_entries}
use Rattle.dvv_set.proofs.Walks.{count_uncovered-next}
use Rattle.dvv_set.proofs.room.uncovered.Goals as goal

pub offset_bounds-entries-entry-index : goal.offset_bounds-entries-entry-index
offset_bounds-entries-entry-index g c = c.loop-entry.auto.entry-index-end

pub bounds-entries-entry-index : goal.bounds-entries-entry-index
bounds-entries-entry-index g c = c.loop-entry-test.true

pub loop-entry-preserved : goal.loop-entry-preserved
loop-entry-preserved g c =
    let entries = c.args.entries.now in
    let pairs = unwrap_or (pairs_of c.args.context) [] in
    let rest = count_uncovered pairs (clock_entries (drop (c.loop-entry.entry-index + 1) entries)) in
    let step =
    count_uncovered-next pairs entries c.loop-entry.entry-index c.entry-item.result c.loop-entry-test.true
    ∙ ap (λ entry. newer (counter_in pairs (actor_of entry.pair)) (clock_entry entry).1 + rest) (sym c.entry-item.is)
    ∙ ap (λ n. n + rest) (sym c.newer-more.ensures.newer) in
    (omega (arith, c.loop-entry.invariant.0, c.newer-more.ensures.few), omega (arith, c.loop-entry.invariant.1, step))

pub returns : goal.returns
returns g c =
    let pairs = unwrap_or (pairs_of c.args.context) [] in
    omega (arith, c.loop-entry.invariant.1, ap (λ entries. count_uncovered pairs (clock_entries entries)) (drop_of_length-le c.args.entries.now c.loop-entry-test.false))

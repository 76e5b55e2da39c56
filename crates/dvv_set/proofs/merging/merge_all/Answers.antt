use Rattle.std.proofs.Common.{◌∙◌, refl, sym, ap, arith, length}
use Rattle.dvv_set.specs.ClockEntries.{merge_all}
use Rattle.dvv_set.specs.Stored.{clock_entries}
use Rattle.dvv_set.proofs.Ahead.{none-ahead, ahead-first, ahead-next, below-first}
use Rattle.dvv_set.proofs.Counts.{AreEntries-rest, AreEntries-next, is_entry-first, merge_entry-fits, merge_all-next}
use Rattle.dvv_set.proofs.Rooms.{some_items, none_items, fewer_items, in_more_room, more_room}
use Rattle.dvv_set.proofs.merging.merge_all.Goals as goal

pub loop-others-init : goal.loop-others-init
loop-others-init g c = record { entries = c.requires.own_entries; others = c.requires.other_entries; within = omega arith; ahead = none-ahead (clock_entries c.args.others.items); room = omega arith; same = refl }

pub remove_first-entry-requires : goal.remove_first-entry-requires
remove_first-entry-requires g c =
    let some = some_items c.loop-others.others.items (sym c.is_empty.ensures ∙ c.loop-others-test.true) in
    let fits = c.well_formed in
    (omega arith, some)

pub loop-others-smaller : goal.loop-others-smaller
loop-others-smaller g c = fewer_items _ _ _ c.remove_first-entry.ensures

pub merge_entry-first-requires : goal.merge_entry-first-requires
merge_entry-first-requires g c =
    let e = ap clock_entries c.remove_first-entry.ensures in
    let same = ap length c.loop-others.invariant.same in
    let fits = c.well_formed in (
      omega arith,
      (
        omega arith,
        (
          c.loop-others.invariant.entries.sorted,
          (
            c.loop-others.invariant.entries.each,
            (
              is_entry-first _ _ _ e c.loop-others.invariant.others,
              (
                c.loop-others.invariant.within,
                (
                  ahead-first _ _ _ _ e c.loop-others.invariant.ahead,
                  merge_entry-fits _ _ _ _ _ e c.loop-others.invariant.others c.loop-others.invariant.entries (in_more_room _ _ _ _ same c.requires.room c.loop-others.invariant.room),
                ),
              ),
            ),
          ),
        ),
      ),
    )

pub loop-others-preserved : goal.loop-others-preserved
loop-others-preserved g c =
    let e = ap clock_entries c.remove_first-entry.ensures in
    record {
      entries = AreEntries-next _ _ _ _ _ e c.merge_entry-first.ensures.merged_in c.loop-others.invariant.others c.loop-others.invariant.entries;
      others = AreEntries-rest _ _ _ e c.loop-others.invariant.others;
      within = c.merge_entry-first.ensures.within;
      ahead = ahead-next _ _ _ (below-first _ _ _ e c.loop-others.invariant.others) c.merge_entry-first.ensures.below;
      room = more_room _ _ _ c.loop-others.invariant.room c.merge_entry-first.ensures.capacity;
      same = merge_all-next _ _ _ _ _ e c.merge_entry-first.ensures.merged_in ∙ c.loop-others.invariant.same;
    }

pub returns-clause-merged_in : goal.returns-clause-merged_in
returns-clause-merged_in g c =
    let none = none_items c.loop-others.others.items (sym c.is_empty.ensures ∙ c.loop-others-test.false) in
    ap (λ items. merge_all (clock_entries items) (clock_entries c.loop-others.entries.items)) (sym none) ∙ c.loop-others.invariant.same

pub returns-clause-capacity : goal.returns-clause-capacity
returns-clause-capacity g c = c.loop-others.invariant.room

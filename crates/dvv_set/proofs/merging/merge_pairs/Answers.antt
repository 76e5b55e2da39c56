use Rattle.std.proofs.Common.{◌∙◌, ap, arith, length, refl}
use Rattle.dvv_set.specs.ClockEntries.{merge_all, entries_of_pairs}
use Rattle.dvv_set.specs.Stored.{clock_entries}
use Rattle.dvv_set.proofs.Ahead.{none-ahead, ahead-first, ahead-next, below-first}
use Rattle.dvv_set.proofs.ClockEntries.{is_entry-positive}
use Rattle.dvv_set.proofs.Counts.{AreEntries-rest, AreEntries-next, is_entry-first, merge_entry-fits, merge_all-next}
use Rattle.dvv_set.proofs.Events.{AreEntries-pairs}
use Rattle.dvv_set.proofs.merging.merge_pairs.Goals as goal

pub loop-actor-init : goal.loop-actor-init
loop-actor-init g c = record {
  entries = c.requires.own_entries;
  others = rw c.into_iter-actor-iterator.ensures.into_iter_gives (AreEntries-pairs g.row.V.Denot c.args.pairs c.requires.of_form);
  within = omega arith;
  ahead = none-ahead (entries_of_pairs {V = g.row.V.Denot} c.into_iter-actor-iterator.result);
  room = omega arith;
  rooms = λ all. all;
  same = refl;
}

pub merge_pair-first-requires : goal.merge_pair-first-requires
merge_pair-first-requires g c =
    let e = ap (entries_of_pairs {V = g.row.V.Denot}) c.in-Some.ensures.steps in
    let all = ap (λ pairs. length (merge_all (entries_of_pairs {V = g.row.V.Denot} pairs) (clock_entries c.args.entries.now.items))) c.into_iter-actor-iterator.ensures.into_iter_gives in
    let same = ap length c.loop-actor.invariant.same in
    let fits = c.well_formed in (
      omega arith,
      (
        omega arith,
        (
          c.loop-actor.invariant.entries.sorted,
          (
            is_entry-positive c.in-Some.counter 0 (is_entry-first _ _ _ e c.loop-actor.invariant.others),
            (
              c.loop-actor.invariant.within,
              (
                ahead-first _ _ _ _ e c.loop-actor.invariant.ahead,
                merge_entry-fits _ _ _ _ _ e c.loop-actor.invariant.others c.loop-actor.invariant.entries (omega (arith, same, all, c.requires.room, c.loop-actor.invariant.room)),
              ),
            ),
          ),
        ),
      ),
    )

pub loop-actor-preserved : goal.loop-actor-preserved
loop-actor-preserved g c =
    let e = ap (entries_of_pairs {V = g.row.V.Denot}) c.in-Some.ensures.steps in
    record {
      entries = AreEntries-next _ _ _ _ _ e c.merge_pair-first.ensures.merged_in c.loop-actor.invariant.others c.loop-actor.invariant.entries;
      others = AreEntries-rest _ _ _ e c.loop-actor.invariant.others;
      within = c.merge_pair-first.ensures.within;
      ahead = ahead-next _ _ _ (below-first _ _ _ e c.loop-actor.invariant.others) c.merge_pair-first.ensures.below;
      room = omega (arith, c.loop-actor.invariant.room, c.merge_pair-first.ensures.capacity);
      rooms = λ all. c.merge_pair-first.ensures.rooms (c.loop-actor.invariant.rooms all);
      same = merge_all-next _ _ _ _ _ e c.merge_pair-first.ensures.merged_in ∙ c.loop-actor.invariant.same;
    }

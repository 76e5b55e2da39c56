use Rattle.std.proofs.Common.{◌≡◌, ◌+◌, length}
use Rattle.std.specs.Vec.Iter.{into_iter_items, into_iter_len}
use Rattle.stats_book.specs.Counting.{both, sum_of}
use Rattle.stats_book.proofs.holding.Holding.merge_all.Given as goal

abbrev pub invariant-loop-share : goal.invariant-loop-share
invariant-loop-share g l = record {
  shares : l.all.shares + length (into_iter_items l.others) ≡ l.initial.all.shares + length (into_iter_items l.initial.others);
  counted : both l.all.counted (sum_of (into_iter_items l.others)) ≡ both l.initial.all.counted (sum_of (into_iter_items l.initial.others));
}

abbrev pub decreases-loop-share : goal.decreases-loop-share
decreases-loop-share g l = into_iter_len l.others

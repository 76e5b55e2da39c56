use Rattle.std.proofs.Common.{◌≡◌, ◌≤◌, ◌+◌, replicate, vec_capacity}
use Rattle.stats_book.specs.Counting.{zeros}
use Rattle.stats_book.proofs.holding.Holding.split_into.Given as goal

abbrev pub invariant-loop : goal.invariant-loop
invariant-loop g l = record {
  left : l.all.shares + l.counter ≡ l.shares;
  counted : l.all.counted ≡ zeros;
  split : l.split.items ≡ replicate l.counter zeros;
  room : l.shares ≤ vec_capacity l.split;
}

use Rattle.std.proofs.Common.{◌≡◌, ◌++◌, map}
use Rattle.std.specs.Vec.Iter.{into_iter_items}
use Rattle.worker_pool.specs.JobEnds.{counted_whole}
use Rattle.worker_pool.proofs.pool.whole_ends.Given as goal

abbrev pub invariant-loop-one : goal.invariant-loop-one
invariant-loop-one g l = map counted_whole l.ends.items ++ into_iter_items l.one-iterator ≡ l.fn.served.items

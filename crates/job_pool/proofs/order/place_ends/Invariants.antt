use Rattle.std.proofs.Common.{◌≡◌}
use Rattle.std.specs.Vec.Iter.{into_iter_items}
use Rattle.job_pool.specs.Ends.{placed}
use Rattle.job_pool.proofs.order.place_ends.Given as goal

abbrev pub invariant-loop-one : goal.invariant-loop-one
invariant-loop-one g l = placed l.places.items (into_iter_items l.one-iterator) ≡ placed l.fn.places.items l.fn.ends.items

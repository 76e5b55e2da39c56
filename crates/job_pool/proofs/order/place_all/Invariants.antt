use Rattle.std.proofs.Common.{◌≡◌}
use Rattle.std.specs.Vec.Iter.{into_iter_items}
use Rattle.job_pool.specs.Ends.{placed, told_by}
use Rattle.job_pool.specs.Sinks.{kept}
use Rattle.job_pool.proofs.order.place_all.Given as goal

abbrev pub invariant-loop-sink : goal.invariant-loop-sink
invariant-loop-sink g l = placed l.places.items (told_by kept (into_iter_items l.sink-iterator)) ≡ placed l.fn.places.items (told_by kept l.fn.sinks.items)

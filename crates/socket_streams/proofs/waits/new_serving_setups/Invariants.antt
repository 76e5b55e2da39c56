use Rattle.std.proofs.Common.{◌≡◌, ◌+◌, [], length}
use Rattle.job_pool.specs.Lists.{Every}
use Rattle.std.specs.Vec.Iter.{into_iter_items}
use Rattle.socket_streams.proofs.waits.new_serving_setups.Given as goal

abbrev pub invariant-loop-worker : goal.invariant-loop-worker
invariant-loop-worker g l =
    Every (λ serving_setup. serving_setup.sink ≡ []) l.serving_setups.items
    × (length l.serving_setups.items + length (into_iter_items l.worker-iterator) ≡ length l.fn.workers.items)

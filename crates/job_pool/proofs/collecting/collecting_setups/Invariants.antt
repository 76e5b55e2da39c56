use Rattle.std.proofs.Common.{◌≡◌, ◌+◌, ◌≤◌, ◌++◌, length, map}
use Rattle.std.specs.Prelude.{vec_capacity}
use Rattle.std.specs.Vec.Iter.{into_iter_items}
use Rattle.job_pool.specs.Lists.{Every}
use Rattle.job_pool.specs.Sinks.{HasRoom, kept}
use Rattle.job_pool.specs.Workers.{IsNew, worker_of}
use Rattle.job_pool.proofs.collecting.collecting_setups.Given as goal

abbrev pub invariant-loop-worker : goal.invariant-loop-worker
invariant-loop-worker g l =
    (map worker_of l.worker_setups.items ++ into_iter_items l.worker-iterator ≡ l.fn.workers.items)
    × Every (IsNew kept HasRoom) l.worker_setups.items
    × (length (into_iter_items l.worker-iterator) + length l.worker_setups.items ≤ vec_capacity l.worker_setups)
    × (length l.left.items ≡ length (into_iter_items l.worker-iterator))

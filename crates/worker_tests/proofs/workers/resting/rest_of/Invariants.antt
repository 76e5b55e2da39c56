use Rattle.std.proofs.Common.{◌≡◌, ◌++◌, map}
use Rattle.std.specs.Vec.Iter.{into_iter_items}
use Rattle.job_pool.specs.Lists.{concat}
use Rattle.worker_tests.proofs.workers.resting.rest_of.Given as goal

abbrev pub invariant-loop-worker : goal.invariant-loop-worker
invariant-loop-worker l =
    l.all.items ++ concat (map (λ one. one.items) (into_iter_items l.worker-iterator)) ≡ concat (map (λ one. one.items) l.fn.workers.items)

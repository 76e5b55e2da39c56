use Rattle.std.specs.Prelude.{◌≡◌}
use Rattle.crossbeam_queue.specs.Passes.{view, IsPassOf}
use Rattle.job_pool.proofs.worker.work.Given as goal

abbrev pub invariant-loop : goal.invariant-loop
invariant-loop g l =
    (goal.iterator-loop g).can_next l.iterator' × (goal.iterator-loop g).is_finite l.iterator' × IsPassOf l.queue l.mine
    × (l.open_jobs.taken ≡ (view l.mine).taken) × (l.open_jobs.service ≡ l.service) × (l.open_jobs.first ≡ l.fn.worker)

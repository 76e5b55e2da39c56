use Rattle.std.specs.Prelude.{◌≡◌}
use Rattle.crossbeam_queue.specs.Passes.{view, IsPassOf}
use Rattle.job_pool.proofs.worker.take_tasks.Given as goal

abbrev pub invariant-loop : goal.invariant-loop
invariant-loop g l =
    IsPassOf l.queue l.pass × (l.open_jobs.taken ≡ (view l.pass).taken)
    × (l.open_jobs.service ≡ l.initial.open_jobs.service) × (l.open_jobs.first ≡ l.initial.open_jobs.first)

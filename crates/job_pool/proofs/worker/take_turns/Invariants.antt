use Rattle.std.specs.Prelude.{◌≡◌}
use Rattle.job_pool.proofs.worker.take_turns.Given as goal

abbrev pub invariant-loop : goal.invariant-loop
invariant-loop g l = (l.open_jobs.service ≡ l.initial.open_jobs.service) × (l.open_jobs.first ≡ l.initial.open_jobs.first) × (l.open_jobs.taken ≡ l.initial.open_jobs.taken)

use Rattle.std.specs.Prelude.{◌≡◌}
use Rattle.job_pool.proofs.open_jobs.OpenJobs.take_turn.Given as goal

abbrev pub invariant-loop-before : goal.invariant-loop-before
invariant-loop-before g l = (l.self.service ≡ l.initial.self.service) × (l.self.first ≡ l.initial.self.first) × (l.self.taken ≡ l.initial.self.taken)

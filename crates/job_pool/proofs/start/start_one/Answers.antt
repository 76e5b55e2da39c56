use Rattle.job_pool.proofs.Rule.{forks}
use Rattle.job_pool.proofs.start.start_one.Goals as goal

pub another-theirs-requires-clause-rule : goal.another-theirs-requires-clause-rule
another-theirs-requires-clause-rule g c = forks g.H.Accepts.accepts _ _

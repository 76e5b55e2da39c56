use Rattle.job_pool.proofs.Rule.{begins}
use Rattle.job_pool.proofs.pool.run_owned.Goals as goal

pub ruled-requires-clause-rule : goal.ruled-requires-clause-rule
ruled-requires-clause-rule g c = begins g.H.Accepts.accepts

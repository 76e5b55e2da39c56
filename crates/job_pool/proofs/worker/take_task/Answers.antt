use Rattle.job_pool.proofs.Rule.{pops}
use Rattle.job_pool.proofs.worker.take_task.Goals as goal

pub pop_as-requires-clause-rule : goal.pop_as-requires-clause-rule
pop_as-requires-clause-rule g c = (pops g.H.Accepts.accepts _ _, λ items views h at. tt)

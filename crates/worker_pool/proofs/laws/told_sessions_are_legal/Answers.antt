use Rattle.worker_pool.proofs.Legal.{told_is_legal}
use Rattle.worker_pool.proofs.laws.told_sessions_are_legal.Goals as goal

pub returns : goal.returns
returns g c = told_is_legal

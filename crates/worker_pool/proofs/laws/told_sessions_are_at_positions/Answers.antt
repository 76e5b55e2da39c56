use Rattle.worker_pool.proofs.Legal.{told_at}
use Rattle.worker_pool.proofs.laws.told_sessions_are_at_positions.Goals as goal

pub returns : goal.returns
returns g c = told_at

use Rattle.worker_pool.proofs.LegalRuns.{plain_run_is_legal}
use Rattle.worker_pool.proofs.laws.pool_replies_are_legal.Goals as goal

pub returns : goal.returns
returns g c = plain_run_is_legal

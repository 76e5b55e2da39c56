use Rattle.worker_pool.proofs.Resuming.{end_at, stop_at}
use Rattle.worker_pool.proofs.laws.sessions_are_at_positions.Goals as goal

pub returns : goal.returns
returns c = record { ended = end_at; stopped = stop_at }

use Rattle.worker_pool.proofs.Resuming.{run_later, passes_later}
use Rattle.worker_pool.proofs.laws.sessions_stay_in_their_run.Goals as goal

pub returns : goal.returns
returns c = record { gates = run_later; passes = passes_later }

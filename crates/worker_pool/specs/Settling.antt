-- What is left of the workers of a run that were joined.
use Rattle.std.specs.Prelude.{◌≡◌, ◌⊎◌, ℕ, true, false, List, map}
use Rattle.job_pool.specs.Lists.{Every}
use Rattle.job_pool.specs.declared.fault.RunFault.{RunFault}
use Rattle.job_pool.specs.declared.fault.RunFault.TheVariants as runs
use Rattle.job_pool.specs.declared.worker.NumberedEnd.{NumberedEnd}
use Rattle.stats_book.specs.Counting.{ArePastFull, sum_of, zeros}
use Rattle.stats_book.specs.declared.totals.Totals.{Totals}
use Rattle.gate_node.specs.Gates.{Gates}
use Rattle.gate_node.specs.Passes.{Sights}
use Rattle.gate_node.specs.declared.fault.PoolFault.{PoolFault}
use Rattle.gate_node.specs.declared.fault.PoolFault.TheVariants.{NoMemory, NoThread, JobsFailed, BookFull}
use Rattle.worker_pool.specs.declared.end_sink.SessionEnd.{SessionEnd}
use Rattle.worker_pool.specs.declared.served_sessions.ServedSessions.{ServedSessions}
use Rattle.worker_pool.specs.EndReporters.{EndReporterView, IsCovered, are_full, sink_of, resting_of}

-- the fault for a fault of the workers' run
abbrev pub pool_fault : RunFault → PoolFault
pool_fault runs.NoMemory = NoMemory
pool_fault runs.NoThread = NoThread
pool_fault runs.JobsFailed = JobsFailed

module _ {R W K : Type 0} (told : K → List (NumberedEnd (SessionEnd R W))) (gates : Gates) where
  -- what is left of workers with these states and these end reporters, where the book was never full
  pub record Settles (workers : List Totals) (end_reporters : List (EndReporterView R W K)) (given away : ℕ) (seen : Sights) (served : ServedSessions R W K) : Type 0 where
    pub stand : Every (IsCovered told gates seen) end_reporters
    pub whole : are_full end_reporters ≡ false
    pub sinks : served.sinks.items ≡ map sink_of end_reporters
    pub resting : map (λ one. one.items) served.resting.items ≡ map resting_of end_reporters
    pub totals : served.totals ≡ sum_of workers
    pub accepted : served.accepted ≡ given
    pub refused : served.refused ≡ away

  -- the book was full in a session of one of these end reporters, or in none of them, and what the workers counted would pass the last number together
  abbrev pub AreTooMany : List Totals → List (EndReporterView R W K) → Type 0
  AreTooMany workers end_reporters = (are_full end_reporters ≡ true) ⊎ ((are_full end_reporters ≡ false) × ArePastFull zeros (sum_of workers))

  -- why nothing is left
  abbrev pub IsFaultAfterTold : List Totals → List (EndReporterView R W K) → Sights → PoolFault → Type 0
  IsFaultAfterTold workers end_reporters seen NoMemory = ⊥
  IsFaultAfterTold workers end_reporters seen NoThread = ⊥
  IsFaultAfterTold workers end_reporters seen JobsFailed = ⊥
  IsFaultAfterTold workers end_reporters seen BookFull = AreTooMany workers end_reporters × Every (IsCovered told gates seen) end_reporters

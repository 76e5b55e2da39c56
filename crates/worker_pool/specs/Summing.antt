-- What the sessions of a run counted in all.
use Rattle.std.specs.Prelude.{◌≡◌, ℕ, List, Option, map, replicate}
use Rattle.job_pool.specs.Turns.{ServedTurn, ServedOnce}
use Rattle.node_session.specs.Streams.{SourceView, TargetView}
use Rattle.stats_book.specs.Counting.{both, sum_of, zeros}
use Rattle.stats_book.specs.declared.totals.Totals.{Totals}
use Rattle.gate_node.specs.Gates.{Gates}
use Rattle.worker_pool.specs.declared.job.Job.{Job}
use Rattle.worker_pool.specs.declared.job.End.{End}
use Rattle.worker_pool.specs.declared.server.ServedJob.{ServedJob}
use Rattle.worker_pool.specs.JobEnds.{CountsInSession, counted_whole}

-- a session that was to be held, as a turn of a worker that counts
abbrev pub SessionTurn : Type 0 → Type 0 → Type 0
SessionTurn I O = ServedTurn Totals (Job I O) (ServedJob I O)

-- the sums of what was counted before each of these sessions, and after each
abbrev pub sums_before : {I O : Type 0} → List (SessionTurn I O) → Totals
sums_before {I} {O} sessions = sum_of (map (λ (s : SessionTurn I O). s.before) sessions)

abbrev pub sums_after : {I O : Type 0} → List (SessionTurn I O) → Totals
sums_after {I} {O} sessions = sum_of (map (λ (s : SessionTurn I O). s.after) sessions)

module _ {I O : Type 0} (source : I → SourceView) (target : O → TargetView) (shared : Gates) where
  -- each of these jobs was served in one session, to its end, by one of these workers, who counted from zero; the totals are the sums of
  -- what the workers counted, and so what these sessions raised the numbers by
  pub record SumsSessions (workers : ℕ) (jobs : List (Job I O)) (ends : List (End I O)) (totals : Totals) : Type 0 where
    pub counts : List Totals
    pub once : ServedOnce (CountsInSession source target shared) jobs (replicate workers zeros) (map counted_whole ends) counts
    pub sums : totals ≡ sum_of counts
    pub raised : both (sums_before once.turns) totals ≡ sums_after once.turns

-- The jobs that a worker has open.
use Rattle.std.specs.Prelude.{◌≡◌, ◌+◌, ℕ, Bool, List, [], ◌∷◌, Option, Some, None, IfSome, slice_get}
use Rattle.slab.specs.Slab.{Slab, get}
use Rattle.job_pool.specs.Lists.{Pairwise}
use Rattle.job_pool.specs.Turns.{ServedTurn, TurnChain}
use Rattle.job_pool.specs.Ends.{IsTurnOfTaken, weight_told, weight_refused}
use Rattle.job_pool.specs.Queue.{weight_of}
use Rattle.job_pool.specs.declared.queue.NumberedJob.{NumberedJob}
use Rattle.job_pool.specs.declared.worker.NumberedEnd.{NumberedEnd}

-- the service of an open job, its number, the job as it was given, and whether it is over
pub record OpenJobView (S J : Type 0) : Type 0 where
  pub service : S
  pub number : ℕ
  pub job : J
  pub ended : Bool

-- the worker's state at its start and now, the open jobs by slot, the sink, which jobs were taken, and the numbers of those that were refused
pub record OpenJobsView (S W J K : Type 0) : Type 0 where
  pub service : S
  pub first : W
  pub worker : W
  pub jobs : Slab (OpenJobView S J)
  pub sink : K
  pub taken : List (NumberedJob J)
  pub refused : List ℕ

module _ {S J : Type 0} where
  -- an open job of this service is one of those that were taken, under its number
  pub record IsOpenJob (service : S) (taken : List (NumberedJob J)) (open_job : OpenJobView S J) : Type 0 where
    pub of_service : open_job.service ≡ service
    pub place : ℕ
    pub next : NumberedJob J
    pub at : slice_get taken place ≡ Some next
    pub number : open_job.number ≡ next.number
    pub job : open_job.job ≡ next.job

  abbrev pub AreOpenJobs : S → List (NumberedJob J) → Slab (OpenJobView S J) → Type 0
  AreOpenJobs service taken jobs = (slot : ℕ) → IfSome (get jobs slot) (IsOpenJob service taken)

-- the weights of the numbers of what is open, together
abbrev pub weight_slot : {S J : Type 0} → (ℕ → ℕ) → Option (OpenJobView S J) → ℕ
weight_slot w None = 0
weight_slot w (Some open_job) = w open_job.number

abbrev pub weight_open : {S J : Type 0} → (ℕ → ℕ) → List (Option (OpenJobView S J)) → ℕ
weight_open w [] = 0
weight_open w (slot ∷ rest) = weight_slot w slot + weight_open w rest

-- A worker that took these jobs has served some of them, to these ends, and has come from the first state to the last; each of the others is
-- open or was refused; and each that was taken is just one of these, once, since whatever its number weighs, the sums are the same.
pub record OpenJobsStand {S W J E : Type 0} (Serves : W → J → W → E → Type 0) (service : S) (taken : List (NumberedJob J)) (told : List (NumberedEnd E)) (refused : List ℕ) (first last : W) (jobs : Slab (OpenJobView S J)) : Type 0 where
  pub turns : List (ServedTurn W J E)
  pub chained : TurnChain Serves first turns last
  pub each : Pairwise (IsTurnOfTaken taken) turns told
  pub are_open : AreOpenJobs service taken jobs
  pub once : (w : ℕ → ℕ) → weight_told w told + weight_refused w refused + weight_open w jobs.slots ≡ weight_of w taken

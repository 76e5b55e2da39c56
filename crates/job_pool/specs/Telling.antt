-- What a run comes to: each end was told the sink of the worker that served the job.
use Rattle.std.specs.Prelude.{◌≡◌, ◌+◌, ℕ, List, [], Option, Result, Ok, Err, length, map, vec_capacity, ◌≤◌}
use Rattle.job_pool.specs.Lists.{Every, Pairwise}
use Rattle.job_pool.specs.Turns.{WorkerTurns, IsChain, firsts_of, lasts_of}
use Rattle.job_pool.specs.Giving.{GaveAll, GaveFailed, StoppedAfter}
use Rattle.job_pool.specs.Queue.{weight_below}
use Rattle.job_pool.specs.Ends.{IsTold, told_by, weight_told, weight_refused}
use Rattle.job_pool.specs.Workers.{worker_of}
use Rattle.job_pool.specs.declared.fault.RunFault.{RunFault}
use Rattle.job_pool.specs.declared.readiness.WorkerSetup.{WorkerSetup}
use Rattle.job_pool.specs.declared.workers_left.WorkersLeft.{WorkersLeft}
use Rattle.job_pool.specs.declared.worker.NumberedEnd.{NumberedEnd}

-- of no worker
abbrev pub IsEmpty : {W K : Type 0} → WorkersLeft W K → Type 0
IsEmpty told = (told.workers.items ≡ []) × (told.sinks.items ≡ []) × (told.given ≡ 0) × (told.refused ≡ 0)

-- it has places for what so many workers leave
abbrev pub HasPlaces : {W K : Type 0} → WorkersLeft W K → ℕ → Type 0
HasPlaces told n = (length told.workers.items + n ≤ vec_capacity told.workers) × (length told.sinks.items + n ≤ vec_capacity told.sinks)

module _ {W J E K : Type 0} (Serves : W → J → W → E → Type 0) (told : K → List (NumberedEnd E)) where
  -- Each worker came from its first state to its last by turns whose ends its sink was told, each under the number of its job among these. Each
  -- of these jobs was served so or refused, once, since whatever their numbers weigh, the sums are the same. These are counted.
  pub record ToldOnce (jobs : List J) (firsts lasts : List W) (sinks : List K) (given refused : ℕ) : Type 0 where
    pub shares : List (WorkerTurns W J E)
    pub refusals : List ℕ
    pub began : firsts_of shares ≡ firsts
    pub left : lasts_of shares ≡ lasts
    pub chained : Every (IsChain Serves) shares
    pub each : Pairwise (IsTold told jobs) shares sinks
    pub once : (w : ℕ → ℕ) → weight_told w (told_by told sinks) + weight_refused w refusals ≡ weight_below w (length jobs)
    pub all : given ≡ length jobs
    pub others : refused ≡ length refusals
    pub counted : length (told_by told sinks) + refused ≡ given

  module _ {G F : Type 0} (Gives : G → Result (Option J) F → G → Type 0) where
    -- the source gave jobs until there was none, or it stopped by this fault; each was told once
    abbrev pub TellsGiven : G → List W → WorkersLeft W K → Result (Unit {0}) RunFault → G → Type 0
    TellsGiven first firsts done (Ok u) last = (jobs : List J) × GaveAll Gives first jobs last × ToldOnce jobs firsts done.workers.items done.sinks.items done.given done.refused
    TellsGiven first firsts done (Err fault) last = (jobs : List J) × StoppedAfter Gives fault first jobs last × ToldOnce jobs firsts done.workers.items done.sinks.items done.given done.refused

module _ {G J F W E K D B : Type 0} (Gives : G → Result (Option J) F → G → Type 0) (Serves : W → J → W → E → Type 0) (told : K → List (NumberedEnd E)) where
  -- all jobs until there was none, each of which was served in one turn of a worker, whose sink was told its end, or was refused
  abbrev pub TellsEachOnce : G → List (WorkerSetup W K D B) → WorkersLeft W K → G → Type 0
  TellsEachOnce first worker_setups done last = (jobs : List J) × GaveAll Gives first jobs last × ToldOnce Serves told jobs (map worker_of worker_setups) done.workers.items done.sinks.items done.given done.refused

  -- some jobs, of which the same holds with what the workers left, and then a fault
  abbrev pub ToldThenFailed : G → List (WorkerSetup W K D B) → G → Type 0
  ToldThenFailed first worker_setups last =
      (jobs : List J) × GaveFailed Gives first jobs last × (done : WorkersLeft W K) × ToldOnce Serves told jobs (map worker_of worker_setups) done.workers.items done.sinks.items done.given done.refused

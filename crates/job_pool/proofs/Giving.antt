-- A source that has given some jobs gives one more.
use Rattle.std.proofs.Common.{◌≡◌, List, [], ◌∷◌, ◌++◌, refl, subst, inl, inr}
use Rattle.std.specs.Prelude.{Option, Some, Result, Ok, Err, IfOk, IfErr}
use Rattle.job_pool.specs.declared.fault.RunFault.{RunFault}
use Rattle.job_pool.specs.declared.fault.RunFault.TheVariants.{NoMemory, NoThread, JobsFailed}
use Rattle.job_pool.specs.Giving.{Gave, GaveAll, GaveFailed, Leaves, StoppedAfter}
use Rattle.job_pool.specs.Telling.{ToldOnce, TellsGiven}
use Rattle.job_pool.specs.declared.workers_left.WorkersLeft.{WorkersLeft}
use Rattle.job_pool.specs.declared.worker.NumberedEnd.{NumberedEnd}
use Rattle.job_pool.specs.Workers.{IsOfRun}

module _ {G J F : Type 0} (Gives : G → Result (Option J) F → G → Type 0) where
  pub gave_more : (first : G) (jobs : List J) (next : G) (job : J) (last : G) → Gave Gives first jobs next → Gives next (Ok (Some job)) last → Gave Gives first (jobs ++ job ∷ []) last
  gave_more first [] next job last is more = (last, subst (λ m. Gives m (Ok (Some job)) last) is more, refl)
  gave_more first (one ∷ jobs) next job last h more = (h.0, h.1, gave_more h.0 jobs next job last h.2 more)

  -- before a job was taken the source is as it was
  pub none_taken : (fault : RunFault) (first : G) → IsOfRun fault → Leaves Gives fault first first
  none_taken NoMemory first h = ([], inl (inl refl))
  none_taken NoThread first h = refl
  none_taken JobsFailed first h = absurd h

  -- behind the last job, or behind a fault, memory was refused
  pub refused : (first : G) (jobs : List J) (last : G) (stopped : Result (Unit {0}) RunFault) → IfOk stopped (λ _. GaveAll Gives first jobs last) → IfErr stopped (λ fault. StoppedAfter Gives fault first jobs last) → Leaves Gives NoMemory first last
  refused first jobs last (Ok u) all h = (jobs, inr all)
  refused first jobs last (Err NoMemory) all h = h
  refused first jobs last (Err NoThread) all h = absurd h
  refused first jobs last (Err JobsFailed) all h = (jobs, inl (inr h))

  module _ {W E K : Type 0} (Serves : W → J → W → E → Type 0) (told : K → List (NumberedEnd E)) (first : G) (firsts : List W) (done : WorkersLeft W K) (last : G) where
    abbrev Telling : Result (Unit {0}) RunFault → Type 0
    Telling stopped = TellsGiven Serves told Gives first firsts done stopped last

    -- what each worker took was told
    pub told_all : (jobs : List J) (stopped : Result (Unit {0}) RunFault) → IfOk stopped (λ _. GaveAll Gives first jobs last) → IfErr stopped (λ fault. StoppedAfter Gives fault first jobs last)
        → ToldOnce Serves told jobs firsts done.workers.items done.sinks.items done.given done.refused → Telling stopped
    told_all jobs (Ok u) all h once = (jobs, all, once)
    told_all jobs (Err fault) all h once = (jobs, h, once)

    -- also behind a fault of the source
    pub told_failing : (fault : RunFault) → fault ≡ JobsFailed → Telling (Err fault)
        → (jobs : List J) × GaveFailed Gives first jobs last × (left : WorkersLeft W K) × ToldOnce Serves told jobs firsts left.workers.items left.sinks.items left.given left.refused
    told_failing fault is h = (h.0, subst (λ f. StoppedAfter Gives f first h.0 last) is h.1, done, h.2)

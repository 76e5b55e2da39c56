-- What a lent source gives is what the source gives, and the reference stays the same.
use Rattle.std.proofs.Common.{◌≡◌, ◌∙◌, List, [], ◌∷◌, sym, ap, subst, inl, inr}
use Rattle.std.specs.Prelude.{Option, None, Result, Ok, Err}
use Rattle.job_pool.specs.declared.fault.RunFault.{RunFault}
use Rattle.job_pool.specs.declared.fault.RunFault.TheVariants.{NoMemory, NoThread, JobsFailed}
use Rattle.job_pool.specs.declared.lent.Lent.{Lent}
use Rattle.job_pool.specs.Giving.{Gave, GaveAll, GaveFailed, GivesOnly, Leaves}
use Rattle.job_pool.specs.Telling.{TellsGiven}
use Rattle.job_pool.specs.declared.workers_left.WorkersLeft.{WorkersLeft}
use Rattle.job_pool.specs.declared.worker.NumberedEnd.{NumberedEnd}

module _ {G J F : Type 0} (Gives : G → Result (Option J) F → G → Type 0) where
  abbrev pub LentGives : Lent G → Result (Option J) F → Lent G → Type 0
  LentGives first given last = (last.jobs.ghost_name ≡ first.jobs.ghost_name) × Gives first.jobs.now given last.jobs.now

  gave_inside : (first : Lent G) (jobs : List J) (last : Lent G) → Gave LentGives first jobs last → Gave Gives first.jobs.now jobs last.jobs.now
  gave_inside first [] last is = ap (λ l. l.jobs.now) is
  gave_inside first (job ∷ jobs) last h = (h.0.jobs.now, h.1.1, gave_inside h.0 jobs last h.2)

  pub only_inside : (Fits : J → Type 0) (first : Lent G) → GivesOnly Gives Fits first.jobs.now → GivesOnly LentGives Fits first
  only_inside Fits first only jobs next last job gave gives = only jobs next.jobs.now last.jobs.now job (gave_inside first jobs next gave) gives.1

  gave_same : (first : Lent G) (jobs : List J) (last : Lent G) → Gave LentGives first jobs last → last.jobs.ghost_name ≡ first.jobs.ghost_name
  gave_same first [] last is = ap (λ l. l.jobs.ghost_name) is
  gave_same first (job ∷ jobs) last h = gave_same h.0 jobs last h.2 ∙ h.1.0

  -- the end of a run by ends
  pub all_back : (first : Lent G) (jobs : List J) (last : Lent G) (back : G) → (last.jobs.ghost_name ≡ first.jobs.ghost_name → last.jobs.now ≡ back) → GaveAll LentGives first jobs last → GaveAll Gives first.jobs.now jobs back
  all_back first jobs last back tie h = (h.0.jobs.now, gave_inside first jobs h.0 h.1, subst (λ x. Gives h.0.jobs.now (Ok None) x) (tie (h.2.0 ∙ gave_same first jobs h.0 h.1)) h.2.1)

  -- the end of a run by the source's fault
  failed_back : (first : Lent G) (jobs : List J) (last : Lent G) (back : G) → (last.jobs.ghost_name ≡ first.jobs.ghost_name → last.jobs.now ≡ back) → GaveFailed LentGives first jobs last → GaveFailed Gives first.jobs.now jobs back
  failed_back first jobs last back tie h = (h.0.jobs.now, h.1, gave_inside first jobs h.0 h.2, subst (λ x. Gives h.0.jobs.now (Err h.1) x) (tie (h.3.0 ∙ gave_same first jobs h.0 h.2)) h.3.1)

  -- the end of a run by a fault
  pub leaves_back : (fault : RunFault) (first last : Lent G) (back : G) → (last.jobs.ghost_name ≡ first.jobs.ghost_name → last.jobs.now ≡ back) → Leaves LentGives fault first last → Leaves Gives fault first.jobs.now back
  leaves_back NoThread first last back tie h = sym (tie (ap (λ l. l.jobs.ghost_name) h)) ∙ ap (λ l. l.jobs.now) h
  leaves_back JobsFailed first last back tie (jobs, h) = (jobs, failed_back first jobs last back tie h)
  leaves_back NoMemory first last back tie (jobs, inl (inl h)) = (jobs, inl (inl (subst (λ x. Gave Gives first.jobs.now jobs x) (tie (gave_same first jobs last h)) (gave_inside first jobs last h))))
  leaves_back NoMemory first last back tie (jobs, inl (inr h)) = (jobs, inl (inr (failed_back first jobs last back tie h)))
  leaves_back NoMemory first last back tie (jobs, inr h) = (jobs, inr (all_back first jobs last back tie h))

  -- and what was told
  pub tells_back : {W E K : Type 0} (Serves : W → J → W → E → Type 0) (told : K → List (NumberedEnd E)) (firsts : List W) (done : WorkersLeft W K) (stopped : Result (Unit {0}) RunFault) (first last : Lent G) (back : G)
      → (last.jobs.ghost_name ≡ first.jobs.ghost_name → last.jobs.now ≡ back) → TellsGiven Serves told LentGives first firsts done stopped last → TellsGiven Serves told Gives first.jobs.now firsts done stopped back
  tells_back Serves told firsts done (Ok u) first last back tie h = (h.0, all_back first h.0 last back tie h.1, h.2)
  tells_back Serves told firsts done (Err NoThread) first last back tie h = absurd h.1
  tells_back Serves told firsts done (Err JobsFailed) first last back tie h = (h.0, failed_back first h.0 last back tie h.1, h.2)
  tells_back Serves told firsts done (Err NoMemory) first last back tie h = (h.0, leaves_back NoMemory first last back tie h.1, h.2)

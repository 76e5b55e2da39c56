-- What the queue of jobs holds, and what its passes know.
use Rattle.std.specs.Prelude.{◌≡◌, ◌+◌, ◌≤◌, ℕ, zero, suc, Bool, true, false, List, [], ◌∷◌, ◌++◌, Some, slice_get, length}
use mathlib.Core.Option.{some}
use lib.ListN.{get_elem?}
use Rattle.job_pool.specs.Lists.{Every}
use Rattle.job_pool.specs.declared.queue.NumberedJob.{NumberedJob}
use Rattle.job_pool.specs.declared.queue.Task.{Task}
use Rattle.job_pool.specs.declared.queue.Task.TheVariants.{Serve, Stop}
use Rattle.job_pool.specs.declared.queue.Knowledge.{Knowledge}

-- the weights of all numbers below this one
abbrev pub weight_below : (ℕ → ℕ) → ℕ → ℕ
weight_below w zero = 0
weight_below w (suc n) = weight_below w n + w n

module _ {J : Type 0} where
  abbrev pub knowledge : Bool → List J → List (NumberedJob J) → Knowledge J
  knowledge leads given taken = record { leads = leads; given = given; taken = taken }

  -- of the thread that gives the jobs, before it gave any
  abbrev pub leader : Knowledge J
  leader = knowledge true [] []

  -- of a worker that has taken none
  abbrev pub newcomer : Knowledge J
  newcomer = knowledge false [] []

  abbrev pub after_push : Knowledge J → Task J → Knowledge J
  after_push v (Serve next) = knowledge v.leads (v.given ++ next.job ∷ []) v.taken
  after_push v Stop = v

  abbrev pub after_pop : Knowledge J → Task J → Knowledge J
  after_pop v (Serve next) = knowledge v.leads v.given (v.taken ++ next ∷ [])
  after_pop v Stop = v

  -- with what another one took
  abbrev pub together : Knowledge J → Knowledge J → Knowledge J
  together v w = knowledge v.leads v.given (v.taken ++ w.taken)

  -- it is the job of that number among these
  abbrev pub IsNumbered : List J → NumberedJob J → Type 0
  IsNumbered jobs next = slice_get jobs next.number ≡ Some next.job

  -- a service that takes such jobs takes it
  abbrev pub IsAcceptedTask : (J → Type 0) → Task J → Type 0
  IsAcceptedTask Accepts (Serve next) = Accepts next.job
  IsAcceptedTask Accepts Stop = Unit {0}

  -- after these jobs it may be given
  abbrev pub IsNextTask : List J → Task J → Type 0
  IsNextTask jobs (Serve next) = next.number ≡ length jobs
  IsNextTask jobs Stop = Unit {0}

  -- it was given, as one of these jobs or as a stop mark
  abbrev pub WasGiven : (J → Type 0) → List J → Task J → Type 0
  WasGiven Accepts jobs (Serve next) = IsNumbered jobs next × Accepts next.job
  WasGiven Accepts jobs Stop = Unit {0}

  -- this pass took some of these jobs; if it gives them it is the pass of that number, and knows them all
  abbrev pub Agrees : ℕ → List J → ℕ → Knowledge J → Type 0
  Agrees lead jobs port v = (v.leads ≡ true → (port ≡ lead) × (v.given ≡ jobs)) × Every (IsNumbered jobs) v.taken

  -- how many of the tasks are jobs
  abbrev pub waiting : List (Task J) → ℕ
  waiting [] = 0
  waiting (Serve next ∷ tasks) = 1 + waiting tasks
  waiting (Stop ∷ tasks) = waiting tasks

  -- how many jobs the passes took
  abbrev pub taken_by : List (Knowledge J) → ℕ
  taken_by [] = 0
  taken_by (v ∷ views) = length v.taken + taken_by views

  -- the weights of these jobs' numbers, together
  abbrev pub weight_of : (ℕ → ℕ) → List (NumberedJob J) → ℕ
  weight_of w [] = 0
  weight_of w (next ∷ rest) = w next.number + weight_of w rest

  abbrev pub weight_waiting : (ℕ → ℕ) → List (Task J) → ℕ
  weight_waiting w [] = 0
  weight_waiting w (Serve next ∷ tasks) = w next.number + weight_waiting w tasks
  weight_waiting w (Stop ∷ tasks) = weight_waiting w tasks

  abbrev pub weight_taken : (ℕ → ℕ) → List (Knowledge J) → ℕ
  weight_taken w [] = 0
  weight_taken w (v ∷ views) = weight_of w v.taken + weight_taken w views

  -- there are jobs that one pass gave, of which are all that the queue holds and that each pass took; each waits or was taken once
  abbrev pub AllGiven : (J → Type 0) → List (Task J) → List (Knowledge J) → Type 0
  AllGiven Accepts tasks views =
      (lead : ℕ) × (jobs : List J) × Every (WasGiven Accepts jobs) tasks
      × ((port : ℕ) (v : Knowledge J) → get_elem? views port ≡ some v → Agrees lead jobs port v)
      × (taken_by views + waiting tasks ≡ length jobs)
      × ((w : ℕ → ℕ) → weight_taken w views + weight_waiting w tasks ≡ weight_below w (length jobs))

  -- what this pass took are jobs that it gave, and no more than it gave; where it took as many, each once, whatever the numbers weigh
  pub record AreOfGiven (v : Knowledge J) : Type 0 where
    pub numbered : Every (IsNumbered v.given) v.taken
    pub count : length v.taken ≤ length v.given
    pub once : length v.taken ≡ length v.given → (w : ℕ → ℕ) → weight_of w v.taken ≡ weight_below w (length v.given)

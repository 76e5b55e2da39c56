-- How the ends of the workers' turns come into the places of their jobs.
use Rattle.std.specs.Prelude.{◌≡◌, ◌+◌, ◌^◌, ◌<◌, ◌⊎◌, ℕ, List, Option, Some, None, [], ◌∷◌, ◌++◌, length, map, slice_get, slice_set}
use Rattle.std.specs.List.Sorted.{IsPermutation}
use Rattle.job_pool.specs.Lists.{Every, Pairwise, concat}
use Rattle.job_pool.specs.Queue.{IsNumbered, weight_of}
use Rattle.job_pool.specs.Turns.{ServedTurn, WorkerTurns, TurnChain, IsChain, firsts_of, lasts_of}
use Rattle.job_pool.specs.declared.queue.NumberedJob.{NumberedJob}
use Rattle.job_pool.specs.declared.worker.NumberedEnd.{NumberedEnd}

-- each end is laid into the place of its number
abbrev pub placed : {E : Type 0} → List (Option E) → List (NumberedEnd E) → List (Option E)
placed places [] = places
placed places (one ∷ rest) = placed (slice_set places one.number (Some one.end)) rest

-- so many empty places, in which these ends, laid into the places of their numbers, leave none empty; in this order
abbrev pub AreInOrder : {E : Type 0} → ℕ → List (NumberedEnd E) → List E → Type 0
AreInOrder {E} count ends order =
    (places : List (Option E)) × (length places ≡ count) × Every (λ place. place ≡ None) places × (map (λ end. Some end) order ≡ placed places ends)

-- the weights of the numbers of these ends, and of these refused jobs, together
abbrev pub weight_told : {E : Type 0} → (ℕ → ℕ) → List (NumberedEnd E) → ℕ
weight_told w [] = 0
weight_told w (one ∷ rest) = w one.number + weight_told w rest

abbrev pub weight_refused : (ℕ → ℕ) → List ℕ → ℕ
weight_refused w [] = 0
weight_refused w (n ∷ rest) = w n + weight_refused w rest

-- what these sinks were told, one after another
abbrev pub told_by : {K E : Type 0} → (K → List (NumberedEnd E)) → List K → List (NumberedEnd E)
told_by told sinks = concat (map told sinks)

-- it is this count, so long as that is a number of 64 bits
abbrev pub IsCount : ℕ → ℕ → Type 0
IsCount count n = n < 2 ^ 64 → count ≡ n

module _ {W J E : Type 0} where
  -- the turn came to this end, and served a job that was taken under the end's number
  pub record IsTurnOfTaken (taken : List (NumberedJob J)) (turn : ServedTurn W J E) (done : NumberedEnd E) : Type 0 where
    pub place : ℕ
    pub next : NumberedJob J
    pub at : slice_get taken place ≡ Some next
    pub number : done.number ≡ next.number
    pub job : turn.job ≡ next.job
    pub end : turn.end ≡ done.end

  -- the job that was given under the end's number
  pub record IsTurnOfGiven (jobs : List J) (turn : ServedTurn W J E) (done : NumberedEnd E) : Type 0 where
    pub at : slice_get jobs done.number ≡ Some turn.job
    pub end : turn.end ≡ done.end

  -- of the jobs in the first places, these turns served those whose places have an end, and came to these ends
  abbrev pub AreFilled : List J → List (Option E) → List (ServedTurn W J E) → Type 0
  AreFilled jobs [] [] = Unit {0}
  AreFilled jobs [] (turn ∷ turns) = ⊥
  AreFilled [] (place ∷ places) turns = ⊥
  AreFilled (job ∷ jobs) (None ∷ places) turns = AreFilled jobs places turns
  AreFilled (job ∷ jobs) (Some end ∷ places) [] = ⊥
  AreFilled (job ∷ jobs) (Some end ∷ places) (turn ∷ turns) = (turn.job ≡ job) × (turn.end ≡ end) × AreFilled jobs places turns

  -- the ends of these turns lie in the places, each in its own; or two had one place, and there are fewer ends than turns
  pub record AreCollected (jobs : List J) (done : List (ServedTurn W J E)) (places : List (Option E)) : Type 0 where
    pub turns : List (ServedTurn W J E)
    pub filled : AreFilled jobs places turns
    pub once : IsPermutation done turns ⊎ (length turns < length done)

  -- what this sink was told are the ends of these turns, each with the job that was given under the end's number
  abbrev pub IsTold : {K : Type 0} → (K → List (NumberedEnd E)) → List J → WorkerTurns W J E → K → Type 0
  IsTold told jobs share sink = Pairwise (IsTurnOfGiven jobs) share.turns (told sink)

  module _ (Serves : W → J → W → E → Type 0) where
    -- A worker that took these jobs has served some of them, to these ends, and has come from the first state to the last; it refused the
    -- others; each job is one of these, once; and it has counted what it took, and what it refused.
    pub record HasWorked (taken : List (NumberedJob J)) (ends : List (NumberedEnd E)) (took away : ℕ) (first last : W) : Type 0 where
      pub turns : List (ServedTurn W J E)
      pub refusals : List ℕ
      pub chained : TurnChain Serves first turns last
      pub each : Pairwise (IsTurnOfTaken taken) turns ends
      pub once : (w : ℕ → ℕ) → weight_told w ends + weight_refused w refusals ≡ weight_of w taken
      pub all : IsCount took (length taken)
      pub others : IsCount away (length refusals)

    -- a worker was joined: what it took is known, as jobs that were given, and it has worked
    abbrev pub IsWorkerJoined : List J → List (NumberedJob J) → List (NumberedJob J) → List (NumberedEnd E) → ℕ → ℕ → W → W → Type 0
    IsWorkerJoined jobs taken taken' ends took away first last =
        (theirs : List (NumberedJob J)) × (taken' ≡ taken ++ theirs) × Every (IsNumbered jobs) theirs × HasWorked theirs ends took away first last

    -- the workers that began in the first of these states were joined, and left the last ones and these sinks; those in the rest were not
    pub record AreJoined {K : Type 0} (told : K → List (NumberedEnd E)) (jobs : List J) (taken : List (NumberedJob J)) (firsts rest lasts : List W) (sinks : List K) (took away : ℕ) : Type 0 where
      pub shares : List (WorkerTurns W J E)
      pub refusals : List ℕ
      pub began : firsts_of shares ++ rest ≡ firsts
      pub left : lasts_of shares ≡ lasts
      pub chained : Every (IsChain Serves) shares
      pub each : Pairwise (IsTold told jobs) shares sinks
      pub once : (w : ℕ → ℕ) → weight_told w (told_by told sinks) + weight_refused w refusals ≡ weight_of w taken
      pub all : IsCount took (length taken)
      pub others : IsCount away (length refusals)

-- The calls of the service that a run makes.
use Rattle.std.specs.Prelude.{◌≡◌, List, [], ◌∷◌, map}
use Rattle.std.specs.List.Sorted.{IsPermutation}
use Rattle.job_pool.specs.Lists.{Every, concat}

-- one call: a worker in a state serves a job, and comes to a next state and to the job's end
pub record ServedTurn (W J E : Type 0) : Type 0 where
  pub before : W
  pub job : J
  pub after : W
  pub end : E

-- the turns of one worker, and its states before and after them
pub record WorkerTurns (W J E : Type 0) : Type 0 where
  pub first : W
  pub turns : List (ServedTurn W J E)
  pub last : W

module _ {W J E : Type 0} where
  abbrev pub jobs_of : List (ServedTurn W J E) → List J
  jobs_of turns = map (λ (turn : ServedTurn W J E). turn.job) turns

  abbrev pub ends_of : List (ServedTurn W J E) → List E
  ends_of turns = map (λ (turn : ServedTurn W J E). turn.end) turns

  abbrev pub firsts_of : List (WorkerTurns W J E) → List W
  firsts_of shares = map (λ (share : WorkerTurns W J E). share.first) shares

  abbrev pub lasts_of : List (WorkerTurns W J E) → List W
  lasts_of shares = map (λ (share : WorkerTurns W J E). share.last) shares

  -- of all workers, one after another
  abbrev pub turns_of : List (WorkerTurns W J E) → List (ServedTurn W J E)
  turns_of shares = concat (map (λ (share : WorkerTurns W J E). share.turns) shares)

  module _ (Serves : W → J → W → E → Type 0) where
    -- calls of the service, each from the state that the one before it left
    abbrev pub TurnChain : W → List (ServedTurn W J E) → W → Type 0
    TurnChain first [] last = last ≡ first
    TurnChain first (turn ∷ turns) last = (turn.before ≡ first) × Serves turn.before turn.job turn.after turn.end × TurnChain turn.after turns last

    abbrev pub IsChain : WorkerTurns W J E → Type 0
    IsChain share = TurnChain share.first share.turns share.last

    -- each of these jobs was served in one turn, to its end; the turns are those of the workers, and led each of them from its
    -- first state to its last
    pub record ServedOnce (jobs : List J) (firsts : List W) (ends : List E) (lasts : List W) : Type 0 where
      pub turns : List (ServedTurn W J E)
      pub shares : List (WorkerTurns W J E)
      pub served : jobs_of turns ≡ jobs
      pub ended : ends_of turns ≡ ends
      pub began : firsts_of shares ≡ firsts
      pub left : lasts_of shares ≡ lasts
      pub chained : Every IsChain shares
      pub once : IsPermutation (turns_of shares) turns

-- What a run of the pool comes to.
use Rattle.std.specs.Prelude.{◌≡◌, ◌+◌, ◌⊎◌, ℕ, true, false, List, [], ◌∷◌, Option, Some, Result, length, map, slice_get}
use Rattle.job_pool.specs.Ends.{told_by, weight_told, weight_refused}
use Rattle.job_pool.specs.Giving.{GaveAll, GaveSome, GaveThenFailed}
use Rattle.job_pool.specs.Lists.{Every, concat}
use Rattle.job_pool.specs.Queue.{weight_below}
use Rattle.job_pool.specs.declared.jobs.JobFault.{JobFault}
use Rattle.job_pool.specs.declared.worker.NumberedEnd.{NumberedEnd}
use Rattle.node_session.specs.Streams.{SourceView, TargetView}
use Rattle.stats_book.specs.Counting.{ArePastFull, both, sum_of}
use Rattle.stats_book.specs.declared.totals.Totals.{Totals}
use Rattle.gate_node.specs.Gates.{Gates}
use Rattle.gate_node.specs.GateStep.{NodeOverGates}
use Rattle.gate_node.specs.Merging.{HaveSeenAllOf}
use Rattle.gate_node.specs.Passes.{Sights}
use Rattle.gate_node.specs.declared.fault.PoolFault.{PoolFault}
use Rattle.gate_node.specs.declared.fault.PoolFault.TheVariants.{NoMemory, NoThread, JobsFailed, BookFull}
use Rattle.worker_pool.specs.declared.end_sink.SessionEnd.{SessionEnd}
use Rattle.worker_pool.specs.declared.session_service.LeftSession.{LeftSession}
use Rattle.worker_pool.specs.declared.left.EndedSession.{EndedSession}
use Rattle.worker_pool.specs.declared.served_sessions.ServedSessions.{ServedSessions}
use Rattle.worker_pool.specs.Leaving.{EndsOver, IsEndOf}
use Rattle.worker_pool.specs.Resuming.{RunStep}
use Rattle.worker_pool.specs.Serving.{CountsInOpenSession}
use Rattle.worker_pool.specs.PausedSessions.{Origin, PausedSessionView, RestsAgain}

-- the end of a session that left these passes and began there
abbrev pub with_passes : {R W : Type 0} → SessionEnd R W → Sights → Origin → EndedSession R W
with_passes end passes origin = record { result = end.result; reader = end.reader; writer = end.writer; passes = passes; origin = origin }

-- a session that began there came to this end, over gates that became these
abbrev pub IsToldEnd : {R W : Type 0} → (R → SourceView) → (W → TargetView) → Gates → Origin → SessionEnd R W → Type 0
IsToldEnd source target shared origin end = (passes : Sights) × (after : NodeOverGates) × EndsOver source target shared RunStep origin (with_passes end passes origin) after

-- a session of which a sink was told the end: its number, the session as it was given, its end, the passes that it left, and what it counted
pub record ToldSession (R W : Type 0) : Type 0 where
  pub number : ℕ
  pub session : PausedSessionView R W
  pub end : SessionEnd R W
  pub passes : Sights
  pub counted : Totals

-- one that rests: its number, the session as it was given and as it is now, and what it counted
pub record RestedSession (R W : Type 0) : Type 0 where
  pub number : ℕ
  pub session : PausedSessionView R W
  pub now : PausedSessionView R W
  pub counted : Totals

module _ {R W : Type 0} where
  -- what the sink was told of it
  abbrev pub told_of : ToldSession R W → NumberedEnd (SessionEnd R W)
  told_of one = record { number = one.number; end = one.end }

  abbrev pub count_told : ToldSession R W → Totals
  count_told one = one.counted

  abbrev pub now_of : RestedSession R W → PausedSessionView R W
  now_of one = one.now

  abbrev pub count_rested : RestedSession R W → Totals
  count_rested one = one.counted

  -- the weights of the numbers of those that rest, together
  abbrev pub weight_rested : (ℕ → ℕ) → List (RestedSession R W) → ℕ
  weight_rested w [] = 0
  weight_rested w (one ∷ rest) = w one.number + weight_rested w rest

  module _ (source : R → SourceView) (target : W → TargetView) (shared : Gates) (given : List (PausedSessionView R W)) where
    -- it is the one of its number, and came to this end; the passes that it left have seen no more than these
    pub record IsToldSession (seen : Sights) (one : ToldSession R W) : Type 0 where
      pub given_as : slice_get given one.number ≡ Some one.session
      pub ends : IsEndOf source target shared RunStep one.session one.counted false (with_passes one.end one.passes one.session.origin)
      pub covered : HaveSeenAllOf seen one.passes

    -- it is the one of its number, went on, and rests again, which may be
    pub record IsRestedSession (may_rest : Type 0) (one : RestedSession R W) : Type 0 where
      pub given_as : slice_get given one.number ≡ Some one.session
      pub rests : RestsAgain shared one.session one.counted false one.now
      pub allowed : may_rest

  module _ {K : Type 0} (may_rest : Type 0) (source : R → SourceView) (target : W → TargetView) (told : K → List (NumberedEnd (SessionEnd R W))) (shared : Gates) where
    -- What the sinks were told are the ends of these sessions, and these rest. Each that was given is one of them or was refused, once, since whatever
    -- their numbers weigh, the sums are the same. What was seen of the gates by those that are over these passes have seen too, and what they had seen
    -- before. The totals are what they counted.
    pub record TellsAll (given : List (PausedSessionView R W)) (first : Sights) (served : ServedSessions R W K) (seen : Sights) : Type 0 where
      pub ended : List (ToldSession R W)
      pub rested : List (RestedSession R W)
      pub refusals : List ℕ
      pub tells : map told_of ended ≡ told_by told served.sinks.items
      pub each : Every (IsToldSession source target shared given seen) ended
      pub rests : map now_of rested ≡ concat (map (λ one. one.items) served.resting.items)
      pub each_rests : Every (IsRestedSession source target shared given may_rest) rested
      pub once : (w : ℕ → ℕ) → (weight_told w (told_by told served.sinks.items) + weight_rested w rested) + weight_refused w refusals ≡ weight_below w (length given)
      pub accepted : served.accepted ≡ length given
      pub refused : served.refused ≡ length refusals
      pub all : (length ended + length rested) + served.refused ≡ served.accepted
      pub seen_on : HaveSeenAllOf seen first
      pub totals : served.totals ≡ both (sum_of (map count_told ended)) (sum_of (map count_rested rested))

    -- so were all sessions of a source
    abbrev pub TellsSource : {J : Type 0} → (J → Result (Option (PausedSessionView R W)) JobFault → J → Type 0) → J → Sights → ServedSessions R W K → J → Sights → Type 0
    TellsSource Gives first before served last seen = (given : List (PausedSessionView R W)) × GaveAll Gives first given last × TellsAll given before served seen

module _ {J R W : Type 0} (Gives : J → Result (Option (PausedSessionView R W)) JobFault → J → Type 0) (may_rest : Type 0) (source : R → SourceView) (target : W → TargetView) (shared : Gates) where
  -- all sessions were given, and at the end of one of them its worker had no room for what it had counted
  pub record GavePastFullBook (first last : J) : Type 0 where
    pub given : List (PausedSessionView R W)
    pub all : GaveAll Gives first given last
    pub number : ℕ
    pub session : PausedSessionView R W
    pub is : slice_get given number ≡ Some session
    pub before : Totals
    pub after : Totals
    pub one : LeftSession R W
    pub counts : CountsInOpenSession may_rest source target shared before session after one
    pub full : one.book_full ≡ true

  -- All sessions were given; these ended, these rest and the others were refused, each once, and at none of their ends a worker had no room. But what
  -- they counted would pass the last number of some quantity together.
  pub record GavePastSums (first last : J) : Type 0 where
    pub given : List (PausedSessionView R W)
    pub all : GaveAll Gives first given last
    pub seen : Sights
    pub ended : List (ToldSession R W)
    pub rested : List (RestedSession R W)
    pub refusals : List ℕ
    pub each : Every (IsToldSession source target shared given seen) ended
    pub each_rests : Every (IsRestedSession source target shared given may_rest) rested
    pub once : (w : ℕ → ℕ) → (weight_told w (map told_of ended) + weight_rested w rested) + weight_refused w refusals ≡ weight_below w (length given)
    pub past : ArePastFull (sum_of (map count_told ended)) (sum_of (map count_rested rested))

  -- what is left of the source of sessions
  abbrev pub LeavesTold : PoolFault → J → J → Type 0
  LeavesTold NoMemory first last = GaveSome Gives first last
  LeavesTold NoThread first last = last ≡ first
  LeavesTold JobsFailed first last = GaveThenFailed Gives first last
  LeavesTold BookFull first last = GavePastFullBook first last ⊎ GavePastSums first last

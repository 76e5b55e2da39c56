-- What a server comes to that is paused and goes on.
use Rattle.std.specs.Prelude.{◌≡◌, ◌+◌, ◌≤◌, ◌⊎◌, ◌++◌, ℕ, true, List, [], ◌∷◌, IfSome, length, map}
use mathlib.Core.Logic.{inl, inr}
use Rattle.job_pool.specs.Lists.{Every, concat}
use Rattle.stats_book.specs.Counting.{both, zeros}
use Rattle.gate_node.specs.Gates.{Gates, AreNone, handoff_of}
use Rattle.gate_node.specs.OneHistory.{ShareHistories}
use Rattle.gate_node.specs.Passes.{Sights, ArePassesOf, AreUnused}
use Rattle.gate_node.specs.Plain.{AreLegal}
use Rattle.gate_node.specs.Tallies.{GateHistory}
use Rattle.worker_pool.specs.declared.job.Job.{Job}
use Rattle.worker_pool.specs.declared.served_sessions.ServedSessions.{ServedSessions}
use Rattle.worker_pool.specs.Resuming.{IsOnceDiverted}
use Rattle.worker_pool.specs.PausedSessions.{CanGoOn, PausedSessionView}
use Rattle.worker_pool.specs.Telling.{ToldSession, TellsAll}
use Rattle.socket_streams.specs.declared.halves.RequestHalf.{RequestHalf}
use Rattle.socket_streams.specs.declared.halves.ReplyHalf.{ReplyHalf}
use Rattle.socket_streams.specs.Arriving.{AreNewConnections}
use Rattle.socket_streams.specs.Sessions.{begun_by, in_turn}
use Rattle.node_commands.specs.declared.controlled.Controlled.{Controlled}
use Rattle.node_commands.specs.declared.period.Before.{Before}
use Rattle.node_commands.specs.declared.progress.Progress.{Progress}
use Rattle.node_commands.specs.declared.progress.Paused.{Paused}
use Rattle.node_commands.specs.declared.options.ServerSettings.{ServerSettings}
use Rattle.handoff_tracks.specs.Tracks.{HaveTracks}
use Rattle.node_commands.specs.Runs.{IsAtPositions, IsByRegister, IsNewRun, ToldConnections, replies_of, requests_of}

-- the sessions that rest, of each worker
abbrev pub rested_in : Progress → List (List (PausedSessionView RequestHalf ReplyHalf))
rested_in progress = map (λ one. one.items) progress.rested.items

-- no session rests
abbrev pub NoneRests : Progress → Type 0
NoneRests progress = concat (rested_in progress) ≡ []

-- no session has begun over these gates
pub record IsNew (gates : Gates) (progress : Progress) : Type 0 where
  pub none : progress.rested.items ≡ []
  pub passes : ArePassesOf gates progress.seen
  pub unused : AreUnused progress.seen
  pub uncounted : progress.totals ≡ zeros
  pub unaccepted : progress.connections ≡ 0
  pub unclosed : progress.closed ≡ 0

-- each session that rests may go on over these gates, and what was seen was seen of them
pub record IsReady (gates : Gates) (progress : Progress) : Type 0 where
  pub rested : Every (CanGoOn gates) (concat (rested_in progress))
  pub passes : ArePassesOf gates progress.seen

-- The workers served over these gates until they were paused or there were no more sessions: those that rested, and then one for each of these
-- new connections. Each was told, rests or was refused, once, as a run of the pool says; and what was counted came to what had been.
pub record HasServed (gates : Gates) (old new : Progress) : Type 0 where
  pub jobs : List (Job RequestHalf ReplyHalf)
  pub fresh : AreNewConnections gates old.connections jobs
  pub served : ServedSessions RequestHalf ReplyHalf ToldConnections
  pub told : TellsAll (Unit {0}) requests_of replies_of (λ sink. sink) gates (in_turn (rested_in old) ++ map (begun_by gates) jobs) old.seen served new.seen
  pub rested : new.rested ≡ served.resting
  pub totals : new.totals ≡ both old.totals served.totals
  pub away : ℕ
  pub closed : new.closed ≡ old.closed + away
  pub connections : new.connections ≡ old.connections + (length jobs + away)

-- what the workers have come to behind a run of the pool, in which so many connections were accepted and so many closed, where so much was counted before
pub record AddsUp (before : Before) (served : ServedSessions RequestHalf ReplyHalf ToldConnections) (accepted away : ℕ) (seen : Sights) (progress : Progress) : Type 0 where
  pub rested : progress.rested ≡ served.resting
  pub seen_is : progress.seen ≡ seen
  pub totals : progress.totals ≡ both before.totals served.totals
  pub connections : progress.connections ≡ before.connections + accepted
  pub closed : progress.closed ≡ before.closed + away

-- its workers served, or a partition was diverted while they were paused
abbrev pub Moves : Paused → Paused → Type 0
Moves old new = ((new.shared ≡ old.shared) × HasServed old.shared old.progress new.progress)
    ⊎ ((new.progress ≡ old.progress) × (index : ℕ) × IsOnceDiverted index old.shared new.shared)

-- it went on so, through these states
abbrev pub GoesThrough : Paused → List Paused → Paused → Type 0
GoesThrough first [] last = last ≡ first
GoesThrough first (next ∷ path) last = Moves first next × GoesThrough next path last

-- from a new run by these settings on, whose workers hadn't begun
pub record HasRun (settings : ServerSettings) (last : Paused) : Type 0 where
  pub first : Paused
  pub of_run : IsNewRun settings.ring settings.options.run settings.options.sweep first.shared
  pub begins : IsNew first.shared first.progress
  pub path : List Paused
  pub goes : GoesThrough first path last

-- it may go on, and no more connections were accepted than are to be
pub record CanServe (settings : ServerSettings) (last : Paused) : Type 0 where
  pub run : HasRun settings last
  pub ready : IsReady last.shared last.progress
  pub budget : settings.options.sweep ≡ last.shared.budget
  pub limit : IfSome settings.options.connections (λ limit. last.progress.connections ≤ limit)

-- this holds of each session that ended in a period, over the gates of that period
abbrev pub EachEnded : (Gates → ToldSession RequestHalf ReplyHalf → Type 0) → (old new : Paused) → Moves old new → Type 0
EachEnded P old new (inl (same, served)) = Every (P old.shared) served.told.ended
EachEnded P old new (inr diverted) = Unit {0}

-- so in all of them
abbrev pub AllEnded : (Gates → ToldSession RequestHalf ReplyHalf → Type 0) → (first : Paused) (path : List Paused) (last : Paused) → GoesThrough first path last → Type 0
AllEnded P first [] last goes = Unit {0}
AllEnded P first (next ∷ path) last goes = EachEnded P first next goes.0 × AllEnded P next path last goes.1

-- how many sessions ended or were refused in a period, and how many of its connections were closed, together
abbrev pub over_in : (old new : Paused) → Moves old new → ℕ
over_in old new (inl (same, served)) = (length served.told.ended + served.served.refused) + served.away
over_in old new (inr diverted) = 0

-- so in all of them
abbrev pub all_over : (first : Paused) (path : List Paused) (last : Paused) → GoesThrough first path last → ℕ
all_over first [] last goes = 0
all_over first (next ∷ path) last goes = over_in first next goes.0 + all_over next path last goes.1

-- The gates are still those of the first period. These histories are legal for the sibling register, and each session that ended, in whatever period, is by
-- steps of the register among others, in them.
pub record PeriodsAreLegal (histories : List GateHistory) (first : Paused) (path : List Paused) (last : Paused) (goes : GoesThrough first path last) : Type 0 where
  pub same_gates : last.shared ≡ first.shared
  pub legal : AreLegal last.shared histories
  pub by_register : AllEnded (IsByRegister histories) first path last goes

-- What came of a server. No session rests, and as many ended, were refused or were closed as connections were accepted. The totals are what all sessions
-- counted, and the tallies are those of one history of each primary's vnode through all of it: each reply at a primary of each session that ended, in
-- whatever period, is at a position of that. Where no partition was ever diverted, and the tallies count all of these histories, all replies are legal. What
-- is known of the partitions' diversions holds.
pub record IsControlled (settings : ServerSettings) (outcome : Controlled) : Type 0 where
  pub last : Paused
  pub run : HasRun settings last
  pub limit : IfSome settings.options.connections (λ limit. last.progress.connections ≤ limit)
  pub none_rests : NoneRests last.progress
  pub all : all_over run.first run.path last run.goes ≡ outcome.connections
  pub history : ShareHistories (λ (sights : Sights). sights) last.shared.gates (last.progress.seen ∷ []) outcome.tallies.tallies.items outcome.tallies.count_all
  pub positions : AllEnded (IsAtPositions history.histories) run.first run.path last run.goes
  pub legal : AreNone last.shared.fallbacks → outcome.tallies.count_all ≡ true → PeriodsAreLegal history.histories run.first run.path last run.goes
  pub totals : outcome.totals ≡ last.progress.totals
  pub connections : outcome.connections ≡ last.progress.connections
  pub closed : outcome.closed ≡ last.progress.closed
  pub tracks : HaveTracks (handoff_of last.shared) outcome.tracks

-- What a run of connections leaves.
use Rattle.std.specs.Prelude.{◌≡◌, ◌+◌, ◌^◌, ℕ, true, false, List, [], ◌∷◌, length, map}
use Rattle.job_pool.specs.Lists.{Every, Pairwise}
use Rattle.node_session.specs.Streams.{SourceView, TargetView}
use Rattle.gate_node.specs.Gates.{Gates, AreNone, AreOfNewRun}
use Rattle.gate_node.specs.OneHistory.{AreOfGates, IsSeen, ShareHistories}
use Rattle.gate_node.specs.Passes.{Sights, ArePassesOf, AreUnused}
use Rattle.gate_node.specs.Plain.{AnswersAsRegister, AreLegal}
use Rattle.gate_node.specs.Tallies.{GateHistory, IsTally, CountsAll}
use Rattle.gate_node.specs.declared.tallies.RunTallies.{RunTallies}
use Rattle.job_pool.specs.declared.worker.NumberedEnd.{NumberedEnd}
use Rattle.worker_pool.specs.declared.closed.Closed.{Closed}
use Rattle.worker_pool.specs.declared.job.End.{End}
use Rattle.worker_pool.specs.declared.job.Job.{Job}
use Rattle.worker_pool.specs.Run.{ServesAll}
use Rattle.worker_pool.specs.JobEnds.{EndsWell}
use Rattle.worker_pool.specs.declared.end_sink.SessionEnd.{SessionEnd}
use Rattle.worker_pool.specs.declared.served_sessions.ServedSessions.{ServedSessions}
use Rattle.worker_pool.specs.Leaving.{IsEndOf}
use Rattle.worker_pool.specs.Resuming.{RunStepIn}
use Rattle.worker_pool.specs.Telling.{ToldSession, TellsAll, with_passes}
use Rattle.socket_streams.specs.declared.halves.RequestHalf.{RequestHalf}
use Rattle.socket_streams.specs.declared.halves.ReplyHalf.{ReplyHalf}
use Rattle.socket_streams.specs.Sending.{target_of_replies}
use Rattle.socket_streams.specs.Arriving.{AreNewConnections}
use Rattle.socket_streams.specs.Sessions.{begun_by}
use Rattle.node_commands.specs.declared.serving.Settings.{Settings}
use Rattle.node_commands.specs.declared.until.ServedUntil.{ServedUntil}
use Rattle.node_commands.specs.declared.options.ServerSettings.{ServerSettings}

-- the gates of a new run of this number, with this budget of its sweeps: one for each partition of this ring, around its new vnode, and no partition is
-- diverted
pub record IsNewRun (ring run sweep : ℕ) (gates : Gates) : Type 0 where
  pub ring_is : gates.index_bits ≡ ring
  pub run_is : gates.run ≡ run
  pub budget : gates.budget ≡ sweep
  pub reads : gates.reads ≡ 2 ^ 32
  pub size : length gates.gates ≡ 2 ^ ring
  pub new_vnodes : AreOfNewRun run gates.gates
  pub undiverted : AreNone gates.fallbacks

-- which connection it is, and what its reads gave
abbrev pub requests_of : RequestHalf → SourceView
requests_of half = half

-- which one it is, and what was written to it, of which what the system took is the beginning
abbrev pub replies_of : ReplyHalf → TargetView
replies_of half = target_of_replies half

-- So many connections were served over these gates by so many workers. What was written to each is the output for what its reads gave.
pub record AreServed (gates : Gates) (connections workers : ℕ) (closed : Closed RequestHalf ReplyHalf) : Type 0 where
  pub jobs : List (Job RequestHalf ReplyHalf)
  pub count : length jobs ≡ connections
  pub new : AreNewConnections gates 0 jobs
  pub served : ServesAll requests_of replies_of gates workers jobs closed

-- these histories are legal for the sibling register, and each of these connections was served to its end by steps of the register among others, in them
pub record ConnectionsAreLegal (gates : Gates) (histories : List GateHistory) (jobs : List (Job RequestHalf ReplyHalf)) (ends : List (End RequestHalf ReplyHalf)) : Type 0 where
  pub legal : AreLegal gates histories
  pub by_register : Pairwise (EndsWell (AnswersAsRegister gates histories) requests_of replies_of gates) jobs ends

-- The settings' connections were, over the gates of a new run; and by the register, where the tallies count all of the histories.
pub record AreConnectionsServed (settings : Settings) (closed : Closed RequestHalf ReplyHalf) : Type 0 where
  pub gates : Gates
  pub of_run : IsNewRun settings.ring settings.run settings.sweep gates
  pub served : AreServed gates settings.connections settings.workers closed
  pub legal : closed.count_all ≡ true → ConnectionsAreLegal gates served.served.histories served.jobs closed.ends.items

-- the ends of connections that a sink was told, under their numbers
abbrev pub ToldConnections : Type 0
ToldConnections = List (NumberedEnd (SessionEnd RequestHalf ReplyHalf))

-- a session of which a sink was told the end is by steps in these histories, over gates that became these
abbrev pub IsAtPositions : List GateHistory → Gates → ToldSession RequestHalf ReplyHalf → Type 0
IsAtPositions histories gates one =
    IsEndOf requests_of replies_of gates (RunStepIn histories gates) one.session one.counted false (with_passes one.end one.passes one.session.origin)

-- such a session is by steps of the sibling register among others, in these histories
abbrev pub IsByRegister : List GateHistory → Gates → ToldSession RequestHalf ReplyHalf → Type 0
IsByRegister histories gates one =
    IsEndOf requests_of replies_of gates (AnswersAsRegister gates histories) one.session one.counted false (with_passes one.end one.passes one.session.origin)

-- Connections that were accepted were served over these gates, each to its end, but those that were closed for want of memory. What was written to each is
-- the output for what its reads gave. There is one history of the primary of each partition, of which the passes behind all sessions have seen a beginning: each
-- reply of each connection at it is at a position of that, and the primary's tally is of all of it.
pub record AreTold (gates : Gates) (served : ServedSessions RequestHalf ReplyHalf ToldConnections) (tallies : RunTallies) (connections closed : ℕ) : Type 0 where
  pub jobs : List (Job RequestHalf ReplyHalf)
  pub new : AreNewConnections gates 0 jobs
  pub unused : Sights
  pub seen : Sights
  pub had_seen_nothing : AreUnused unused
  pub told : TellsAll ⊥ requests_of replies_of (λ sink. sink) gates (map (begun_by gates) jobs) unused served seen
  pub passes : ArePassesOf gates seen
  pub histories : List GateHistory
  pub of_gates : AreOfGates gates.gates histories
  pub beginnings : Pairwise IsSeen histories seen.primaries
  pub positions : Every (IsAtPositions histories gates) told.ended
  pub tallied : Pairwise IsTally histories tallies.tallies.items
  pub counts_all : tallies.count_all ≡ true → Pairwise CountsAll histories tallies.tallies.items
  pub counted : connections ≡ served.accepted + closed

-- these histories are legal for the sibling register, and each of these sessions is by steps of the register among others, in them
pub record SessionsAreLegal (gates : Gates) (histories : List GateHistory) (ended : List (ToldSession RequestHalf ReplyHalf)) : Type 0 where
  pub legal : AreLegal gates histories
  pub by_register : Every (IsByRegister histories gates) ended

-- They were, over the gates of a new run by these settings; and by the register, where the tallies count all of the histories.
pub record IsServedUntil {T : Type 0} (settings : ServerSettings) (outcome : ServedUntil T) : Type 0 where
  pub gates : Gates
  pub of_run : IsNewRun settings.ring settings.options.run settings.options.sweep gates
  pub served : AreTold gates outcome.served outcome.tallies outcome.connections outcome.closed
  pub legal : outcome.tallies.count_all ≡ true → SessionsAreLegal gates served.histories served.told.ended

-- these connections with tallies of one history of each vnode, of which these passes have seen a beginning
pub record IsTallied {T : Type 0} (gates : Gates) (served : ServedSessions RequestHalf ReplyHalf ToldConnections) (connections closed : ℕ) (seen : Sights) (outcome : ServedUntil T) : Type 0 where
  pub served_is : outcome.served ≡ served
  pub connections_are : outcome.connections ≡ connections
  pub closed_are : outcome.closed ≡ closed
  pub history : ShareHistories (λ (sights : Sights). sights) gates.gates (seen ∷ []) outcome.tallies.tallies.items outcome.tallies.count_all

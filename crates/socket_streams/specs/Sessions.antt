-- What a source of sessions over sockets gives: those that rest, and then one for each connection of a listener.
use Rattle.std.specs.Prelude.{◌≡◌, List, [], ◌∷◌, Option, Some, None, Result, Ok, Err, reverse}
use Rattle.job_pool.specs.Lists.{concat}
use Rattle.job_pool.specs.declared.jobs.JobFault.{JobFault}
use Rattle.worker_pool.specs.JobEnds.{Gates}
use Rattle.worker_pool.specs.PausedSessions.{PausedSessionView, begun}
use Rattle.worker_pool.specs.declared.job.Job.{Job}
use Rattle.socket_streams.specs.declared.halves.RequestHalf.{RequestHalf}
use Rattle.socket_streams.specs.declared.halves.ReplyHalf.{ReplyHalf}
use Rattle.socket_streams.specs.Arriving.{ArrivalsView, GivesConnection}
use Rattle.socket_streams.specs.Sending.{target_of_replies}

-- the elements of these lists, from the last one of the last list on
abbrev pub in_turn : {A : Type 0} → List (List A) → List A
in_turn lists = reverse (concat lists)

-- the sessions that rest and weren't given yet, in the order in which they are to be, and what the connections come from
pub record SessionsView : Type 0 where
  pub rested : List (PausedSessionView RequestHalf ReplyHalf)
  pub source : ArrivalsView

-- the session that is to begin over these gates by this job
abbrev pub begun_by : Gates → Job RequestHalf ReplyHalf → PausedSessionView RequestHalf ReplyHalf
begun_by gates job = begun (record { gates = gates; passes = job.passes; source = job.reader; target = target_of_replies job.writer }) job.reader job.writer

-- where no session rests: what the connections' source gives, a session for a connection
abbrev pub GivesBegun : ArrivalsView → Result (Option (PausedSessionView RequestHalf ReplyHalf)) JobFault → ArrivalsView → Type 0
GivesBegun first (Ok (Some session)) last = (job : Job RequestHalf ReplyHalf) × GivesConnection first (Ok (Some job)) last × (session ≡ begun_by first.gates job)
GivesBegun first (Ok None) last = GivesConnection first (Ok None) last
GivesBegun first (Err fault) last = GivesConnection first (Err fault) last

-- the first of those that rest, where one does
abbrev pub GivesFirst : List (PausedSessionView RequestHalf ReplyHalf) → ArrivalsView → Result (Option (PausedSessionView RequestHalf ReplyHalf)) JobFault → SessionsView → Type 0
GivesFirst [] source given last = (last.rested ≡ []) × GivesBegun source given last.source
GivesFirst (session ∷ rest) source given last = (given ≡ Ok (Some session)) × (last.rested ≡ rest) × (last.source ≡ source)

abbrev pub GivesSession : SessionsView → Result (Option (PausedSessionView RequestHalf ReplyHalf)) JobFault → SessionsView → Type 0
GivesSession first given last = GivesFirst first.rested first.source given last

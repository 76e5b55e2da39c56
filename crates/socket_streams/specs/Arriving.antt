-- What a listener gives as a source of jobs.
use Rattle.std.specs.Prelude.{◌≡◌, ◌+◌, ℕ, Bool, false, List, [], ◌∷◌, Option, Some, None, Result, Ok, Err}
use Rattle.job_pool.specs.declared.jobs.JobFault.{JobFault}
use Rattle.worker_pool.specs.declared.job.Job.{Job}
use Rattle.worker_pool.specs.JobEnds.{Gates, AreUnused, IsForGates}
use Rattle.socket_streams.specs.declared.halves.RequestHalf.{RequestHalf}
use Rattle.socket_streams.specs.declared.halves.ReplyHalf.{ReplyHalf}

-- the gates that its connections are for, how many are accepted at most, whether one counts that is closed for want of memory, whether an input
-- may end that before, how many connections were given before by others, how many by this one, and how many of those that count were closed
pub record ArrivalsView : Type 0 where
  pub gates : Gates
  pub limit : Option ℕ
  pub counts_refused : Bool
  pub can_stop : Bool
  pub before : ℕ
  pub given : ℕ
  pub refused : ℕ

-- of these, all but the numbers of connections are the same
pub record IsSameSource (first last : ArrivalsView) : Type 0 where
  pub gates : last.gates ≡ first.gates
  pub limit : last.limit ≡ first.limit
  pub counts_refused : last.counts_refused ≡ first.counts_refused
  pub can_stop : last.can_stop ≡ first.can_stop
  pub before : last.before ≡ first.before

-- the connection of this number, by passes of these gates that have seen nothing: nothing was read from it, and nothing written to it
pub record IsNewConnection (gates : Gates) (number : ℕ) (job : Job RequestHalf ReplyHalf) : Type 0 where
  pub of_gates : IsForGates gates job
  pub unused : AreUnused job.passes
  pub unread : job.reader ≡ record { number = Some number; unread = None; heard = Some [] }
  pub unwritten : job.writer ≡ record { number = Some number; sent = []; held = []; lost = [] }

-- new connections with the numbers from this one on
abbrev pub AreNewConnections : Gates → ℕ → List (Job RequestHalf ReplyHalf) → Type 0
AreNewConnections gates number [] = Unit {0}
AreNewConnections gates number (job ∷ jobs) = IsNewConnection gates number job × AreNewConnections gates (number + 1) jobs

-- a connection, of which there is one more; none, where as many were accepted as are to be, or an input may have ended, and none was closed that
-- counts where none does; or a fault
abbrev pub GivesNext : ArrivalsView → Result (Option (Job RequestHalf ReplyHalf)) JobFault → ArrivalsView → Type 0
GivesNext first (Ok (Some job)) last = IsNewConnection first.gates (first.before + first.given) job × (last.given ≡ first.given + 1)
GivesNext first (Ok None) last = (last.given ≡ first.given) × (first.can_stop ≡ false → first.limit ≡ Some (last.given + last.refused)) × (first.counts_refused ≡ false → last.refused ≡ 0)
GivesNext first (Err fault) last = Unit {0}

abbrev pub GivesConnection : ArrivalsView → Result (Option (Job RequestHalf ReplyHalf)) JobFault → ArrivalsView → Type 0
GivesConnection first given last = IsSameSource first last × GivesNext first given last

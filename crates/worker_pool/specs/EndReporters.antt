-- What a worker keeps of how its sessions were left.
use Rattle.std.specs.Prelude.{◌≡◌, ◌+◌, ◌≤◌, ◌||◌, ℕ, Bool, false, List, [], ◌∷◌, length, map}
use Rattle.job_pool.specs.Lists.{Every}
use Rattle.job_pool.specs.declared.worker.NumberedEnd.{NumberedEnd}
use Rattle.gate_node.specs.Gates.{Gates}
use Rattle.gate_node.specs.Merging.{HaveSeenAllOf}
use Rattle.gate_node.specs.Passes.{Sights, ArePassesOf}
use Rattle.worker_pool.specs.declared.end_sink.SessionEnd.{SessionEnd}
use Rattle.worker_pool.specs.declared.session_service.LeftSession.{LeftSession}
use Rattle.worker_pool.specs.declared.left.EndedSession.{EndedSession}
use Rattle.worker_pool.specs.declared.left.Left.{Left}
use Rattle.worker_pool.specs.declared.left.Left.TheVariants.{Ended, Rests}
use Rattle.worker_pool.specs.declared.serving_setup.ServingSetup.{ServingSetup}
use Rattle.worker_pool.specs.PausedSessions.{PausedSessionView}

-- a sink, passes, whether the book was full, the sessions that rest and how many there is room for, and how all its sessions were left
pub record EndReporterView (R W K : Type 0) : Type 0 where
  pub sink : K
  pub seen : Sights
  pub book_full : Bool
  pub resting : List (PausedSessionView R W)
  pub places : ℕ
  pub told : List (NumberedEnd (LeftSession R W))

module _ {R W : Type 0} where
  -- what a sink is told of the end of a session
  abbrev pub end_of : EndedSession R W → SessionEnd R W
  end_of ended = record { result = ended.result; reader = ended.reader; writer = ended.writer }

  abbrev pub ends_more : ℕ → Left R W → List (NumberedEnd (SessionEnd R W)) → List (NumberedEnd (SessionEnd R W))
  ends_more number (Ended ended) rest = record { number = number; end = end_of ended } ∷ rest
  ends_more number (Rests session) rest = rest

  -- what a sink is told of these sessions: of those that are over, the ends
  abbrev pub ends_in : List (NumberedEnd (LeftSession R W)) → List (NumberedEnd (SessionEnd R W))
  ends_in [] = []
  ends_in (one ∷ rest) = ends_more one.number one.end.left (ends_in rest)

  abbrev pub rests_more : Left R W → List (PausedSessionView R W) → List (PausedSessionView R W)
  rests_more (Ended ended) rest = rest
  rests_more (Rests session) rest = session ∷ rest

  -- those of them that rest
  abbrev pub resting_in : List (NumberedEnd (LeftSession R W)) → List (PausedSessionView R W)
  resting_in [] = []
  resting_in (one ∷ rest) = rests_more one.end.left (resting_in rest)

  -- whether the book was full in one of these sessions
  abbrev pub is_full : List (NumberedEnd (LeftSession R W)) → Bool
  is_full [] = false
  is_full (one ∷ rest) = one.end.book_full || is_full rest

  -- what the passes of a session that is over had seen, these have seen too
  abbrev pub HaveSeenLeft : Sights → Left R W → Type 0
  HaveSeenLeft seen (Ended ended) = HaveSeenAllOf seen ended.passes
  HaveSeenLeft seen (Rests session) = Unit {0}

  abbrev pub HaveSeenOne : Sights → NumberedEnd (LeftSession R W) → Type 0
  HaveSeenOne seen one = HaveSeenLeft seen one.end.left

  -- the sink was told the ends of these sessions, and the others rest; what the passes of those that are over had seen the end reporter's have seen too
  pub record EndReporterStands {K : Type 0} (told : K → List (NumberedEnd (SessionEnd R W))) (gates : Gates) (end_reporter : EndReporterView R W K) : Type 0 where
    pub tells : ends_in end_reporter.told ≡ told end_reporter.sink
    pub rests : resting_in end_reporter.told ≡ end_reporter.resting
    pub kept : ArePassesOf gates end_reporter.seen
    pub seen : Every (HaveSeenOne end_reporter.seen) end_reporter.told
    pub full : end_reporter.book_full ≡ is_full end_reporter.told

  -- it has room for so many sessions more, however they are left
  abbrev pub HasRoom : {K : Type 0} → (K → ℕ → Type 0) → EndReporterView R W K → ℕ → Type 0
  HasRoom has_room end_reporter n = has_room end_reporter.sink n × (length end_reporter.resting + n ≤ end_reporter.places)

  abbrev pub sink_of : {K : Type 0} → EndReporterView R W K → K
  sink_of end_reporter = end_reporter.sink

  abbrev pub resting_of : {K : Type 0} → EndReporterView R W K → List (PausedSessionView R W)
  resting_of end_reporter = end_reporter.resting

  abbrev pub told_to : {K : Type 0} → EndReporterView R W K → List (NumberedEnd (LeftSession R W))
  told_to end_reporter = end_reporter.told

  -- whether the book was full in a session of one of them
  abbrev pub are_full : {K : Type 0} → List (EndReporterView R W K) → Bool
  are_full [] = false
  are_full (end_reporter ∷ rest) = end_reporter.book_full || are_full rest

  module _ {K : Type 0} (told : K → List (NumberedEnd (SessionEnd R W))) (gates : Gates) where
    -- an end reporter stands, and what it has seen these passes have seen too
    pub record IsCovered (seen : Sights) (end_reporter : EndReporterView R W K) : Type 0 where
      pub stands : EndReporterStands told gates end_reporter
      pub covers : HaveSeenAllOf seen end_reporter.seen

    -- these are the sinks of these end reporters, and what rests of them; and what they have seen these passes have seen too, beside what they had seen first
    pub record AreApart (end_reporters : List (EndReporterView R W K)) (sinks : List K) (resting : List (List (PausedSessionView R W))) (full : Bool) (first seen : Sights) : Type 0 where
      pub stand : Every (IsCovered seen) end_reporters
      pub sinks_are : sinks ≡ map sink_of end_reporters
      pub resting_are : resting ≡ map resting_of end_reporters
      pub full_is : full ≡ are_full end_reporters
      pub more : HaveSeenAllOf seen first
      pub kept : ArePassesOf gates seen

-- a setup whose sink was told nothing yet, and has room for the ends of what is open: for none
abbrev pub IsNewServingSetup : {K D B E : Type 0} → (K → List E) → (K → ℕ → Type 0) → ServingSetup K D B → Type 0
IsNewServingSetup told has_room serving_setup = (told serving_setup.sink ≡ []) × has_room serving_setup.sink 0

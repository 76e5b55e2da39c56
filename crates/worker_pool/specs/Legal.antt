-- What sessions of a run over partitions without fallbacks reply: at positions of legal histories of the sibling register.
use Rattle.std.specs.Prelude.{◌≡◌, ℕ, Bool, true, false, List, [], ◌∷◌, Option}
use Rattle.node_session.specs.Streams.{SourceView, TargetView}
use Rattle.gate_node.specs.Gates.{Gates, AreNone, AreOfNewRun}
use Rattle.gate_node.specs.OneHistory.{ShareHistories}
use Rattle.gate_node.specs.Passes.{Sights, ArePassesOf}
use Rattle.gate_node.specs.Plain.{AnswersAsRegister, AreLegal}
use Rattle.gate_node.specs.Tallies.{GateHistory, Tally}
use Rattle.worker_pool.specs.Leaving.{IsEndOf}
use Rattle.worker_pool.specs.PausedSessions.{PausedSessionView}
use Rattle.worker_pool.specs.Telling.{ToldSession, IsToldSession, with_passes}

module _ {R W : Type 0} (source : R → SourceView) (target : W → TargetView) (shared : Gates) where
  -- these histories are legal for the sibling register, and the session is by steps of that among others, in these
  pub record AnswersLegally (histories : List GateHistory) (one : ToldSession R W) : Type 0 where
    pub legal : AreLegal shared histories
    pub ends : IsEndOf source target shared (AnswersAsRegister shared histories) one.session one.counted false (with_passes one.end one.passes one.session.origin)

  -- so it is where no partition of a new run has a fallback, and tallies which count all of the histories are of what these passes have seen
  abbrev pub ToldSessionIsLegal : List (PausedSessionView R W) → Sights → ToldSession R W → Type 0
  ToldSessionIsLegal given seen one = (tallies : List Tally) (count_all : Bool)
      → AreOfNewRun shared.run shared.gates → AreNone shared.fallbacks → count_all ≡ true → ArePassesOf shared seen
      → (shares : ShareHistories (λ (s : Sights). s) shared.gates (seen ∷ []) tallies count_all)
      → IsToldSession source target shared given seen one → AnswersLegally shares.histories one

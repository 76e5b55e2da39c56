-- How the sessions of a run are left, and what its workers count of them.
use Rattle.std.specs.Prelude.{◌≡◌, ◌⊎◌, ℕ, List, Option}
use Rattle.node_session.specs.Streams.{SourceView, TargetView}
use Rattle.node_session.specs.Stages.{IsOver}
use Rattle.node_session.specs.declared.stage.Stage.{Stage}
use Rattle.stats_book.specs.Counting.{both}
use Rattle.stats_book.specs.declared.totals.Totals.{Totals}
use Rattle.gate_node.specs.Gates.{Gates}
use Rattle.worker_pool.specs.declared.session_service.LeftSession.{LeftSession}
use Rattle.worker_pool.specs.declared.left.Left.{Left}
use Rattle.worker_pool.specs.declared.left.Left.TheVariants.{Ended, Rests}
use Rattle.worker_pool.specs.Leaving.{LeavesSession}
use Rattle.worker_pool.specs.Resuming.{RunStep}
use Rattle.worker_pool.specs.PausedSessions.{PausedSessionView}

-- a session may be left at this stage: it is over, or it may rest
abbrev pub MayBeLeft : (may_rest : Type 0) → Stage → Type 0
MayBeLeft may_rest stage = IsOver stage ⊎ may_rest

-- one that rests may
abbrev pub RestsWhere : {R W : Type 0} → (may_rest : Type 0) → Left R W → Type 0
RestsWhere may_rest (Ended ended) = Unit {0}
RestsWhere may_rest (Rests session) = may_rest

module _ {R W : Type 0} (may_rest : Type 0) (source : R → SourceView) (target : W → TargetView) (shared : Gates) where
  -- the session went on over these gates, and was left so, which raised a worker's numbers from the first to the last by what it counted
  pub record CountsInOpenSession (first : Totals) (session : PausedSessionView R W) (last : Totals) (one : LeftSession R W) : Type 0 where
    pub counted : Totals
    pub raised : last ≡ both first counted
    pub leaves : LeavesSession source target shared RunStep session counted one.book_full one.left
    pub rests : RestsWhere may_rest one.left

-- How a session that went on is left.
use Rattle.std.specs.Prelude.{◌≡◌, ℕ, Bool, false, List, Option}
use Rattle.riak_msgs.specs.declared.Request.{Request}
use Rattle.riak_msgs.specs.declared.Reply.{Reply}
use Rattle.node_session.specs.Streams.{SourceView, TargetView}
use Rattle.node_session.specs.Stages.{IsGoing, IsOverBy}
use Rattle.stats_book.specs.Counting.{both}
use Rattle.stats_book.specs.declared.totals.Totals.{Totals}
use Rattle.gate_node.specs.Gates.{Gates}
use Rattle.gate_node.specs.GateStep.{NodeOverGates}
use Rattle.gate_node.specs.Passes.{ArePassesOf}
use Rattle.worker_pool.specs.declared.left.EndedSession.{EndedSession}
use Rattle.worker_pool.specs.declared.left.Left.{Left}
use Rattle.worker_pool.specs.declared.left.Left.TheVariants.{Ended, Rests}
use Rattle.worker_pool.specs.Resuming.{IsLater, RunStep}
use Rattle.worker_pool.specs.PausedSessions.{Origin, PausedSessionView, RestsAgain, first_node}

-- it is over
abbrev pub IsEnd : {R W : Type 0} → Left R W → Type 0
IsEnd (Ended ended) = Unit {0}
IsEnd (Rests session) = ⊥

module _ {R W : Type 0} (source : R → SourceView) (target : W → TargetView) where
  -- a session that began there, over gates which became these, came to this end, by this step from its first read on
  pub record EndsOver (shared : Gates) (Step : NodeOverGates → Request → Reply → NodeOverGates → Type 0) (origin : Origin) (ended : EndedSession R W) (after : NodeOverGates) : Type 0 where
    pub from : ended.origin ≡ origin
    pub later : IsLater origin.gates shared
    pub reaches : IsLater after.shared shared
    pub left : after.passes ≡ ended.passes
    pub kept : ArePassesOf shared ended.passes
    pub session : IsOverBy Step (first_node origin) after origin.source (source ended.reader) origin.target (target ended.writer) origin.gates.reads ended.result

  -- a session is left as it is: it is over, and came to this end, or it rests
  abbrev pub IsLeftAs : PausedSessionView R W → Left R W → Type 0
  IsLeftAs session (Ended ended) = EndsOver session.over RunStep session.origin ended session.rest
  IsLeftAs session (Rests now) = (now ≡ session) × IsGoing session.session.stage

  module _ (shared : Gates) (Step : NodeOverGates → Request → Reply → NodeOverGates → Type 0) where
    -- a session that rested came to this end, and has counted so much more; and its node has met no full book, where so
    pub record IsEndOf (session : PausedSessionView R W) (counted : Totals) (full : Bool) (ended : EndedSession R W) : Type 0 where
      pub after : NodeOverGates
      pub ends : EndsOver shared Step session.origin ended after
      pub counts : full ≡ false → both session.rest.count.counted counted ≡ after.count.counted
      pub room : full ≡ false → after.count.book_full ≡ false

    -- that, or it rests again
    abbrev pub LeavesSession : PausedSessionView R W → Totals → Bool → Left R W → Type 0
    LeavesSession session counted full (Ended ended) = IsEndOf session counted full ended
    LeavesSession session counted full (Rests now) = RestsAgain shared session counted full now

-- A session that goes on, and rests again or ends.
use Rattle.std.proofs.Common.{◌≡◌, ◌∙◌, ℕ, List, true, false, refl, sym, ap, subst, inl, inr}
use Rattle.std.specs.Prelude.{Bool, Option}
use Rattle.riak_msgs.specs.declared.Request.{Request}
use Rattle.riak_msgs.specs.declared.Reply.{Reply}
use Rattle.node_session.specs.Streams.{SourceView, TargetView}
use Rattle.node_session.specs.Stages.{Came, Fits, IsGoing, IsOver, IsOverBy}
use Rattle.node_session.specs.declared.stage.Stage.{Stage}
use Rattle.node_session.specs.declared.stage.Stage.TheVariants.{Answering, Sending, Telling, Flushing, Reading, Closing, Over}
use Rattle.node_session.specs.declared.session.Session.{Session}
use Rattle.stats_book.specs.Counting.{both}
use Rattle.stats_book.specs.declared.totals.Totals.{Totals}
use Rattle.gate_node.specs.Gates.{Gates}
use Rattle.gate_node.specs.GateStep.{NodeOverGates}
use Rattle.gate_node.specs.Passes.{Sights, ArePassesOf}
use Rattle.worker_pool.specs.declared.left.EndedSession.{EndedSession}
use Rattle.worker_pool.specs.declared.left.Left.{Left}
use Rattle.worker_pool.specs.declared.left.Left.TheVariants as lefts
use Rattle.worker_pool.specs.Leaving.{EndsOver, IsEnd, IsLeftAs, LeavesSession}
use Rattle.worker_pool.specs.Serving.{MayBeLeft, RestsWhere}
use Rattle.worker_pool.specs.Resuming.{IsLater, RunNodeView, RunNodeStep, RunStep, standing}
use Rattle.worker_pool.specs.PausedSessions.{Origin, PausedSessionView, OpenSessionView, IsUnderWay, IsOpen, StaysOver, first_node}
use Rattle.worker_pool.proofs.Keeping.{came_keeps}
use Rattle.worker_pool.proofs.Mapping.{came_by}
use Rattle.worker_pool.proofs.Resuming.{later_on}

step_stands : (old : RunNodeView) (request : Request) (reply : Reply) (new : RunNodeView) → RunNodeStep old request reply new → RunStep old.stands request reply new.stands
step_stands old request reply new made = made.step

step_over : (old : RunNodeView) (request : Request) (reply : Reply) (new : RunNodeView) → RunNodeStep old request reply new → new.over ≡ old.over
step_over old request reply new made = made.over

step_before : (old : RunNodeView) (request : Request) (reply : Reply) (new : RunNodeView) → RunNodeStep old request reply new → new.before ≡ old.before
step_before old request reply new made = made.before

module _ (first now : RunNodeView) (source source' : SourceView) (target target' : TargetView) (stage : Stage) (session : Session) (came : Came RunNodeStep first now source source' target target' stage session) where
  -- the node is over the same gates still
  pub still_over : now.over ≡ first.over
  still_over = came_keeps RunNodeStep (λ (node : RunNodeView). node.over) step_over first now source source' target target' stage session came

  pub still_before : now.before ≡ first.before
  still_before = came_keeps RunNodeStep (λ (node : RunNodeView). node.before) step_before first now source source' target target' stage session came

  -- by steps of a node over the gates as they were then
  pub by_run : Came RunStep first.stands now.stands source source' target target' stage session
  by_run = came_by RunNodeStep RunStep (λ (node : RunNodeView). node.stands) step_stands first now source source' target target' stage session came

-- and so for one that goes on
pub on_run : (over : Gates) (before : Totals) (first now : NodeOverGates) (source source' : SourceView) (target target' : TargetView) (stage : Stage) (session : Session) → Came RunStep first now source source' target target' stage session
    → Came RunNodeStep (standing over before first) (standing over before now) source source' target target' stage session
on_run over before = came_by RunStep RunNodeStep (standing over before) (λ old request reply new made. record { step = made; over = refl; before = refl })

going_or_over : (stage : Stage) → IsGoing stage → IsOver stage → ⊥
going_or_over Answering going over = over
going_or_over Sending going over = over
going_or_over Telling going over = over
going_or_over Flushing going over = over
going_or_over Reading going over = over
going_or_over (Closing fault) going over = over
going_or_over (Over result) going over = going

module _ {R W : Type 0} (source : R → SourceView) (target : W → TargetView) where
  -- one that is over doesn't rest
  pub is_end : (session : PausedSessionView R W) (left : Left R W) → IsLeftAs source target session left → IsOver session.session.stage → IsEnd left
  is_end session (lefts.Ended ended) h over = tt
  is_end session (lefts.Rests now) h over = absurd (going_or_over session.session.stage h.1 over)

  -- the session that an open one is where it is left
  abbrev pub as_left : OpenSessionView R W → PausedSessionView R W
  as_left open_session = record { origin = open_session.origin; rest = open_session.node.stands; over = open_session.node.over; session = open_session.session; reader = open_session.reader; writer = open_session.writer }

  pub under_way : (open_session : OpenSessionView R W) → IsOpen source target open_session → ArePassesOf open_session.node.over open_session.node.stands.passes → IsLater open_session.node.stands.shared open_session.node.over → (session : PausedSessionView R W) → session ≡ as_left open_session → IsUnderWay source target session
  under_way open_session opened passes later session is =
      let began = standing open_session.node.over open_session.node.before (first_node open_session.origin) in
      subst (IsUnderWay source target) (sym is) (record {
        came = by_run began open_session.node open_session.origin.source (source open_session.reader) open_session.origin.target (target open_session.writer) open_session.session.stage open_session.session opened.came;
        fits = opened.fits;
        reads = opened.reads;
        began_before = opened.began_before;
        rested_before = later;
        of_gates = passes;
      })

  -- a session that goes on is open
  pub goes_on : (session : PausedSessionView R W) → IsUnderWay source target session → (shared : Gates) → IsLater session.over shared → (node : RunNodeView) → node ≡ standing shared session.rest.count.counted session.rest
      → IsOpen source target (record { node = node; session = session.session; reader = session.reader; writer = session.writer; origin = session.origin })
  goes_on session way shared later node is =
      subst (λ (n : RunNodeView). IsOpen source target (record { node = n; session = session.session; reader = session.reader; writer = session.writer; origin = session.origin })) (sym is) (record {
        came = on_run shared session.rest.count.counted (first_node session.origin) session.rest session.origin.source (source session.reader) session.origin.target (target session.writer) session.session.stage session.session way.came;
        fits = way.fits;
        reads = way.reads;
        began_before = later_on session.origin.gates session.over shared way.began_before later;
      })

  -- from wherever a session came to the one, it comes to the other
  abbrev pub OpenSessionGoes : (old new : OpenSessionView R W) → Type 0
  OpenSessionGoes old new = (first : RunNodeView) (u : SourceView) (h : TargetView) → Came RunNodeStep first old.node u (source old.reader) h (target old.writer) old.session.stage old.session
      → Came RunNodeStep first new.node u (source new.reader) h (target new.writer) new.session.stage new.session

  module _ (old new : OpenSessionView R W) (opened : IsOpen source target old) (origin : new.origin ≡ old.origin) (goes : OpenSessionGoes old new) where
    abbrev first : RunNodeView
    first = standing old.node.over old.node.before (first_node old.origin)

    came_on : Came RunNodeStep first new.node old.origin.source (source new.reader) old.origin.target (target new.writer) new.session.stage new.session
    came_on = goes first old.origin.source old.origin.target opened.came

    pub over_on : new.node.over ≡ old.node.over
    over_on = still_over first new.node old.origin.source (source new.reader) old.origin.target (target new.writer) new.session.stage new.session came_on

    pub before_on : new.node.before ≡ old.node.before
    before_on = still_before first new.node old.origin.source (source new.reader) old.origin.target (target new.writer) new.session.stage new.session came_on

    pub stays_open : Fits new.session.stage new.session → new.session.most ≡ old.session.most → IsOpen source target new
    stays_open fits most =
        let Comes : Gates → Totals → Origin → Type 0 = λ over before from. Came RunNodeStep (standing over before (first_node from)) new.node from.source (source new.reader) from.target (target new.writer) new.session.stage new.session in
        record {
          came = subst (λ (from : Origin). Comes new.node.over new.node.before from) (sym origin) (subst (λ (over : Gates). Comes over new.node.before old.origin) (sym over_on) (subst (λ (before : Totals). Comes old.node.over before old.origin) (sym before_on) came_on));
          fits = fits;
          reads = most ∙ opened.reads ∙ ap (λ (from : Origin). from.gates.reads) (sym origin);
          began_before = subst (λ (from : Origin). IsLater from.gates new.node.over) (sym origin) (subst (λ (gates : Gates). IsLater old.origin.gates gates) (sym over_on) opened.began_before);
        }

    pub stays_over : (shared : Gates) (session : PausedSessionView R W) → StaysOver shared session old → StaysOver shared session new
    stays_over shared session h = record { origin = origin ∙ h.origin; over = over_on ∙ h.over; before = before_on ∙ h.before }

  -- what a session came to that is over
  pub ends_over : (session : PausedSessionView R W) → IsUnderWay source target session → (ended : EndedSession R W) → session.session.stage ≡ Over ended.result → ended.origin ≡ session.origin → ended.reader ≡ session.reader → ended.writer ≡ session.writer
      → session.rest.passes ≡ ended.passes → EndsOver source target session.over RunStep session.origin ended session.rest
  ends_over session way ended at from reader writer left =
      let first = first_node session.origin in
      let Is : R → W → ℕ → Type 0 = λ r w most. IsOverBy RunStep first session.rest session.origin.source (source r) session.origin.target (target w) most ended.result in
      let over : Is session.reader session.writer session.session.most = subst (λ (stage : Stage). Came RunStep first session.rest session.origin.source (source session.reader) session.origin.target (target session.writer) stage session.session) at way.came in
      let by_most = subst (λ (most : ℕ). Is session.reader session.writer most) way.reads over in
      let by_reader = subst (λ (r : R). Is r session.writer session.origin.gates.reads) (sym reader) by_most in
      record {
        from = from;
        later = way.began_before;
        reaches = way.rested_before;
        left = left;
        kept = subst (λ (passes : Sights). ArePassesOf session.over passes) left way.of_gates;
        session = subst (λ (w : W). Is ended.reader w session.origin.gates.reads) (sym writer) by_reader;
      }

  module _ (shared : Gates) (session : PausedSessionView R W) (open_session : OpenSessionView R W) (stays : StaysOver shared session open_session) where
    -- how an open session is left, which has counted so much since it went on
    pub leaves : (counted : Totals) (full : Bool) → (full ≡ false → both open_session.node.before counted ≡ open_session.node.stands.count.counted) → (full ≡ false → open_session.node.stands.count.book_full ≡ false)
        → (now : PausedSessionView R W) → now ≡ as_left open_session → (left : Left R W) → IsLeftAs source target now left → LeavesSession source target shared RunStep session counted full left
    leaves counted full counts room now is (lefts.Ended ended) h =
        let over : now.over ≡ shared = ap (λ (s : PausedSessionView R W). s.over) is ∙ stays.over in
        let origin : now.origin ≡ session.origin = ap (λ (s : PausedSessionView R W). s.origin) is ∙ stays.origin in
        let moved = subst (λ (gates : Gates). EndsOver source target gates RunStep now.origin ended now.rest) over h in
        record {
          after = now.rest;
          ends = subst (λ (from : Origin). EndsOver source target shared RunStep from ended now.rest) origin moved;
          counts = λ whole. ap (λ (t : Totals). both t counted) (sym stays.before) ∙ counts whole ∙ ap (λ (s : PausedSessionView R W). s.rest.count.counted) (sym is);
          room = λ whole. ap (λ (s : PausedSessionView R W). s.rest.count.book_full) is ∙ room whole;
        }
    leaves counted full counts room now is (lefts.Rests last) h =
        let same : last ≡ as_left open_session = h.0 ∙ is in
        record {
          origin = ap (λ (s : PausedSessionView R W). s.origin) same ∙ stays.origin;
          over = ap (λ (s : PausedSessionView R W). s.over) same ∙ stays.over;
          counts = λ whole. ap (λ (t : Totals). both t counted) (sym stays.before) ∙ counts whole ∙ ap (λ (s : PausedSessionView R W). s.rest.count.counted) (sym same);
          room = λ whole. ap (λ (s : PausedSessionView R W). s.rest.count.book_full) same ∙ room whole;
        }

  -- where the worker has no room for it, nothing is said of what was counted
  pub leaves_full : (shared : Gates) (session : PausedSessionView R W) (counted none : Totals) (full : Bool) (left : Left R W) → LeavesSession source target shared RunStep session counted full left → LeavesSession source target shared RunStep session none true left
  leaves_full shared session counted none full (lefts.Ended ended) h = record { after = h.after; ends = h.ends; counts = λ whole. absurd (cc whole); room = λ whole. absurd (cc whole) }
  leaves_full shared session counted none full (lefts.Rests now) h = record { origin = h.origin; over = h.over; counts = λ whole. absurd (cc whole); room = λ whole. absurd (cc whole) }

-- one that is left where it may be rests only where that is allowed
pub rests_where : {R W : Type 0} (may_rest : Type 0) (stage : Stage) (left : Left R W) → MayBeLeft may_rest stage → (IsOver stage → IsEnd left) → RestsWhere may_rest left
rests_where may_rest stage (lefts.Ended ended) may is = tt
rests_where may_rest stage (lefts.Rests now) may is = elim may [ inl over ↦ absurd (is over) | inr allowed ↦ allowed ]

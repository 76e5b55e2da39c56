use Rattle.std.proofs.Common.{◌≡◌, ◌∙◌, ap, sym, subst, false}
use Rattle.gate_node.specs.GateStep.{NodeOverGates}
use Rattle.gate_node.specs.Passes.{Sights, ArePassesOf}
use Rattle.stats_book.specs.Counter.{Count}
use Rattle.stats_book.specs.Counting.{both}
use Rattle.worker_pool.specs.Resuming.{gates_in}
use Rattle.worker_pool.specs.PausedSessions.{PausedSessionView, OpenSessionView}
use Rattle.worker_pool.proofs.Resting.{as_left, under_way, leaves}
use Rattle.worker_pool.proofs.open_session.OpenSession.leave.Goals as goal

pub invariant_of-session : goal.invariant_of-session
invariant_of-session g c =
    let open_session = c.self.inside in
    let parts = c.parts-parts in
    let view : OpenSessionView g.row.R.Denot g.row.W.Denot = record { node = open_session.node; session = open_session.session; reader = open_session.reader; writer = open_session.writer; origin = open_session.origin } in
    let passes = subst (λ (p : Sights). ArePassesOf open_session.node.over p) parts.ensures.passes parts.ensures.gates in
    let session : PausedSessionView g.row.R.Denot g.row.W.Denot = record { origin = open_session.origin; rest = parts.result.rest; over = gates_in c.over-over.result; session = open_session.session; reader = open_session.reader; writer = open_session.writer } in (
      parts.ensures.passes ∙ sym (ap (λ (n : NodeOverGates). n.passes) parts.ensures.rest),
      under_way g.R.Source.source g.W.Target.target view c.self.invariant passes parts.ensures.later session (λ i. record {
        origin = open_session.origin;
        rest = parts.ensures.rest i;
        over = c.over-over.ensures i;
        session = open_session.session;
        reader = open_session.reader;
        writer = open_session.writer;
      }),
    )

pub returns-clause-left : goal.returns-clause-left
returns-clause-left g c = λ shared session stays.
    let open_session = c.self.inside in
    let parts = c.parts-parts in
    let counted = parts.result.count.counted in
    let full = parts.result.count.book_full in
    let now : PausedSessionView g.row.R.Denot g.row.W.Denot = record { origin = open_session.origin; rest = parts.result.rest; over = gates_in c.over-over.result; session = open_session.session; reader = open_session.reader; writer = open_session.writer } in
    let here : now ≡ record { origin = open_session.origin; rest = open_session.node.stands; over = open_session.node.over; session = open_session.session; reader = open_session.reader; writer = open_session.writer } = λ i. record {
      origin = open_session.origin;
      rest = parts.ensures.rest i;
      over = c.over-over.ensures i;
      session = open_session.session;
      reader = open_session.reader;
      writer = open_session.writer;
    } in
    let counts = λ (whole : full ≡ false). subst (λ (s : OpenSessionView g.row.R.Denot g.row.W.Denot). both s.node.before counted ≡ s.node.stands.count.counted) c.self.view_is (ap (λ (count : Count). count.counted) parts.ensures.count) in
    let room = λ (whole : full ≡ false). subst (λ (s : OpenSessionView g.row.R.Denot g.row.W.Denot). s.node.stands.count.book_full ≡ false) c.self.view_is (sym (ap (λ (count : Count). count.book_full) parts.ensures.count) ∙ whole) in
    leaves g.R.Source.source g.W.Target.target shared session c.args.self stays counted full counts room now (here ∙ ap (as_left g.R.Source.source g.W.Target.target) c.self.view_is) c.settle.result c.settle.ensures

use Rattle.std.proofs.Common.{subst}
use Rattle.std.specs.Prelude.{not}
use Rattle.stats_book.specs.declared.totals.Totals.{Totals}
use Rattle.worker_pool.specs.declared.session_service.LeftSession.{LeftSession}
use Rattle.worker_pool.specs.Serving.{CountsInOpenSession}
use Rattle.worker_pool.proofs.Counted.{counts_in_open_session}
use Rattle.worker_pool.proofs.Resting.{rests_where}
use Rattle.worker_pool.proofs.session_service.SessionService.leave.Goals as goal

pub returns-clause-counts : goal.returns-clause-counts
returns-clause-counts g c = λ session stands.
    let shared = c.args.self.now in
    let left = c.leave-left in
    let added = c.add-is_added in
    let one : LeftSession g.row.R.Denot g.row.W.Denot = record { left = left.result.0; book_full = not added.result } in
    subst (λ (first : Totals). CountsInOpenSession g.Q.Pause.can_be_raised g.R.Source.source g.W.Target.target shared first session added.new.self one) c.worker.view_is
    (counts_in_open_session g.Q.Pause.can_be_raised g.R.Source.source g.W.Target.target shared c.worker.inside.totals added.new.self session left.result.1 added.result left.result.0
    (left.ensures.left shared session stands) (rests_where g.Q.Pause.can_be_raised c.args.opened.session.stage left.result.0 c.requires left.ensures.over) added.ensures.added added.ensures.same)

use Rattle.std.proofs.Common.{◌∙◌, ap, refl, sym, subst}
use Rattle.gate_node.specs.Gates.{Gates}
use Rattle.gate_node.specs.Passes.{ArePassesOf}
use Rattle.worker_pool.specs.PausedSessions.{PausedSessionView, CanGoOn, StaysOver}
use Rattle.worker_pool.proofs.Resuming.{later_same}
use Rattle.worker_pool.specs.JobEnds.{session_of}
use Rattle.worker_pool.proofs.server.ServerService.open.Goals as goal

pub new-session-requires : goal.new-session-requires
new-session-requires g c = subst (λ (gates : Gates). ArePassesOf gates c.args.job.passes) (sym c.shared.ensures.shared) c.requires

pub go_on-requires : goal.go_on-requires
go_on-requires g c =
    let shared = c.args.self.now.session_service in
    let is = c.new-session.ensures ∙ ap (λ (gates : Gates). session_of g.I.Source.source g.O.Target.target gates c.args.job) c.shared.ensures.shared in
    subst (λ (session : PausedSessionView g.row.I.Denot g.row.O.Denot). CanGoOn shared session) (sym is) (record { later = later_same shared; room = refl })

pub returns-clause-opened : goal.returns-clause-opened
returns-clause-opened g c =
    let is = c.new-session.ensures ∙ ap (λ (gates : Gates). session_of g.I.Source.source g.O.Target.target gates c.args.job) c.shared.ensures.shared in
    subst (λ (session : PausedSessionView g.row.I.Denot g.row.O.Denot). StaysOver c.args.self.now.session_service session c.go_on.result) is c.go_on.ensures

use Rattle.std.proofs.Common.{◌≡◌, inl, subst}
use Rattle.worker_pool.specs.declared.left.Left.{Left}
use Rattle.worker_pool.specs.declared.left.Left.TheVariants as lefts
use Rattle.worker_pool.specs.Serving.{CountsInOpenSession}
use Rattle.worker_pool.specs.JobEnds.{session_of}
use Rattle.worker_pool.proofs.Closing.{counts_in_session}
use Rattle.worker_pool.proofs.server.ServerService.close.Goals as goal

pub leave-left-requires : goal.leave-left-requires
leave-left-requires g c = inl c.requires

pub returns : goal.returns
returns g c = λ job stands.
    let source = g.I.Source.source in
    let target = g.O.Target.target in
    let shared = c.args.self.now.session_service in
    let first = c.args.worker.now in
    let last = c.leave-left.new.worker in
    let full = c.leave-left.result.book_full in
    let session = session_of source target shared job in
    let is : c.leave-left.result.left ≡ lefts.Ended c.in-Ended.ended = c.in-Ended.is in
    counts_in_session source target shared first last job full c.in-Ended.ended c.ended.new.self c.ended-2.new.self c.ended.ensures c.ended-2.ensures
    (subst (λ (left : Left g.row.I.Denot g.row.O.Denot). CountsInOpenSession ⊥ source target shared first session last (record { left = left; book_full = full })) is (c.leave-left.ensures.counts session stands))

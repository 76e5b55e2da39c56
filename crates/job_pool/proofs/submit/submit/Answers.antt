use Rattle.std.proofs.Common.{◌∙◌, sym, ap, subst}
use Rattle.crossbeam_queue.specs.Passes.{view}
use Rattle.job_pool.specs.Queue.{IsNextTask, IsAcceptedTask}
use Rattle.job_pool.proofs.Rule.{pushes}
use Rattle.job_pool.proofs.submit.submit.Goals as goal

pub push_as-requires-clause-rule : goal.push_as-requires-clause-rule
push_as-requires-clause-rule g c =
    let same = c.loop.invariant.3 in
    let held = c.loop.invariant.4 in
    let next = subst (λ x. IsNextTask (view c.loop.pass).given x) (sym held) (subst (λ v. IsNextTask v.given c.args.task) (sym same) c.requires.next.0) in
    let accepted = subst (λ x. IsAcceptedTask g.H.Accepts.accepts x) (sym held) c.requires.next.1 in
    (pushes g.H.Accepts.accepts _ _ _ _ (ap (λ v. v.leads) same ∙ c.requires.leads) next accepted, λ items views h at. tt)

use Rattle.std.proofs.Common.{arith, ◌∙◌, ◌<◌, ◌^◌, [], ap, subst, map}
use Rattle.crossbeam_queue.specs.Passes.{view}
use Rattle.job_pool.specs.Ends.{AreJoined}
use Rattle.job_pool.specs.Workers.{state_before}
use Rattle.job_pool.proofs.Giving.{refused, told_all}
use Rattle.job_pool.proofs.Joining.{all_told}
use Rattle.job_pool.proofs.pool.dispatch.Goals as goal

pub returns-then-told-count-clause-told : goal.returns-then-told-count-clause-told
returns-then-told-count-clause-told g c =
    let Serves = g.S.Service.serves c.args.service.value in
    let all = c.submit_all-count.ensures in
    let count = c.submit_all-count.result.0 in
    let jobs = (view c.submit_all-count.new.pass).given in
    let now = view c.join_all.new.pass in
    let done = c.join_all.new.told in
    let firsts = map state_before c.args.children.items in
    let same = ap (λ v. v.given) c.submit_stops.ensures.same in
    let joined = subst (λ js. AreJoined Serves g.K.Sink.told js now.taken firsts [] done.workers.items done.sinks.items done.given done.refused) same c.join_all.ensures.joined in
    let small : count < 2 ^ 64 = omega arith in
    told_all g.G.Jobs.gives Serves g.K.Sink.told c.args.jobs.now firsts done c.submit_all-count.new.jobs jobs c.submit_all-count.result.1 all.given all.fault
    (all_told Serves g.K.Sink.told jobs now firsts done.workers.items done.sinks.items done.given done.refused count (c.join_all.ensures.given ∙ same) c.join_all.ensures.learned all.count small c.if-told-count.true joined)

pub returns-else-told-count-clause-fault : goal.returns-else-told-count-clause-fault
returns-else-told-count-clause-fault g c = refused g.G.Jobs.gives _ _ _ c.submit_all-count.result.1 c.submit_all-count.ensures.given c.submit_all-count.ensures.fault

use Rattle.std.proofs.Common.{map, subst}
use Rattle.job_pool.specs.Telling.{TellsGiven}
use Rattle.job_pool.specs.Workers.{worker_of}
use Rattle.job_pool.proofs.Giving.{told_failing}
use Rattle.job_pool.proofs.pool.run_at.Goals as goal

pub returns-in-Err-stopped-clause-failed : goal.returns-in-Err-stopped-clause-failed
returns-in-Err-stopped-clause-failed g c =
    let Serves = g.S.Service.serves c.args.service.now in
    let firsts = map worker_of c.args.worker_setups.items in
    let done = c.in-Ok.joined.told in
    λ is. told_failing g.G.Jobs.gives Serves g.K.Sink.told c.args.jobs.now firsts done c.run_lent.new.jobs c.in-Err-stopped.fault is
    (subst (λ s. TellsGiven Serves g.K.Sink.told g.G.Jobs.gives c.args.jobs.now firsts done s c.run_lent.new.jobs) c.in-Err-stopped.is c.in-Ok.ensures.told)

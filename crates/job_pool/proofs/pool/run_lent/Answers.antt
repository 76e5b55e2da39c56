use Rattle.std.proofs.Common.{sym, map}
use Rattle.std.proofs.lemmas.Result.{IfOk-weaker, IfErr-weaker}
use Rattle.job_pool.specs.Workers.{worker_of}
use Rattle.job_pool.proofs.Lending.{only_inside, leaves_back, tells_back}
use Rattle.job_pool.proofs.pool.run_lent.Goals as goal

pub run_owned-jobs-requires-clause-accepts : goal.run_owned-jobs-requires-clause-accepts
run_owned-jobs-requires-clause-accepts g c κs within = λ job accepts. accepts

pub run_owned-jobs-requires-clause-jobs : goal.run_owned-jobs-requires-clause-jobs
run_owned-jobs-requires-clause-jobs g c κs within = only_inside g.G.Jobs.gives (g.S.Service.accepts c.args.service.now) _ c.requires.jobs

pub returns-clause-told : goal.returns-clause-told
returns-clause-told g c =
    let tie = c.jobs-1.given.1 in
    IfOk-weaker c.run_owned-jobs.result.1 _ _ (λ joined h. tells_back g.G.Jobs.gives (g.S.Service.serves c.args.service.now) g.K.Sink.told (map worker_of c.args.worker_setups.items) joined.told joined.stopped _ c.run_owned-jobs.result.0 c.jobs-1.given.0 (λ name. sym (tie (sym name))) h) c.run_owned-jobs.ensures.told

pub returns-clause-fault : goal.returns-clause-fault
returns-clause-fault g c =
    let tie = c.jobs-1.given.1 in
    IfErr-weaker c.run_owned-jobs.result.1 _ _ (λ fault h. leaves_back g.G.Jobs.gives fault _ c.run_owned-jobs.result.0 c.jobs-1.given.0 (λ name. sym (tie (sym name))) h) c.run_owned-jobs.ensures.fault

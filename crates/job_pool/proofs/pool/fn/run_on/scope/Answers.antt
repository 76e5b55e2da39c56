use Rattle.std.proofs.Common.{subst, map, List}
use Rattle.std.specs.Prelude.{IfOk}
use Rattle.job_pool.specs.Telling.{HasPlaces, TellsGiven}
use Rattle.job_pool.specs.Workers.{state_before, worker_of}
use Rattle.job_pool.proofs.Giving.{none_taken}
use Rattle.job_pool.proofs.Starting.{same_many}
use Rattle.job_pool.proofs.pool.fn.run_on.scope.Goals as goal

pub dispatch-joined-requires-clause-told : goal.dispatch-joined-requires-clause-told
dispatch-joined-requires-clause-told g c κs within =
    let many = same_many state_before worker_of c.start_all-started.new.children.items c.captures.worker_setups.items c.in_default.ensures.workers in
    (c.requires.told.0, subst (HasPlaces c.captures.rooms-told) many c.requires.told.1)

pub returns : goal.returns
returns g c =
    let done = c.dispatch-joined.result in
    let WorkersLeft = λ (service : g.row.S.Denot) (firsts : List g.row.S-Worker.Denot). IfOk done (λ joined. TellsGiven (g.S.Service.serves service) g.K.Sink.told g.G.Jobs.gives c.captures.jobs firsts joined.told joined.stopped c.dispatch-joined.new.jobs) in
    record {
      told = subst (WorkersLeft c.captures.service.now) c.in_default.ensures.workers (subst (λ s. WorkersLeft s (map state_before c.start_all-started.new.children.items)) c.of-service.ensures c.dispatch-joined.ensures.told);
      fault = c.dispatch-joined.ensures.fault;
      own = c.dispatch-joined.ensures.own;
    }

pub returns-in-Err : goal.returns-in-Err
returns-in-Err g c = record {
  told = tt;
  fault = none_taken g.G.Jobs.gives c.in-Err.fault c.captures.jobs c.in-Err.ensures.fault;
  own = c.in-Err.ensures.fault;
}

use Rattle.std.proofs.Common.{[], map, inl, inr, refl}
use Rattle.std.proofs.lemmas.Result.{IfErr-weaker}
use Rattle.job_pool.specs.Workers.{worker_of}
use Rattle.worker_pool.proofs.Faults.{leaves_after}
use Rattle.worker_pool.proofs.Histories.{served_of_run}
use Rattle.worker_pool.proofs.Runs.{if_ok_three, over_own, serves_source, source_served}
use Rattle.worker_pool.proofs.pool.run_at_posts.Goals as goal

pub run_at-requires-clause-jobs : goal.run_at-requires-clause-jobs
run_at-requires-clause-jobs g c κs within = rw c.new.ensures c.requires.jobs

pub finish-requires : goal.finish-requires
finish-requires g c =
    let told = c.in-Ok-run_at.ensures.told in
    let once = c.in-Ok-ends_in_order.ensures told.0 (map worker_of c.in-Ok.worker_setups.items) told.2 in
    let served = over_own g.J.Jobs.gives g.I.Source.source g.O.Target.target _ c.args.shared.now _ _ _ _ _ _ c.new.ensures c.in-Ok.ensures.workers told.0 told.1 once in
    let ended = source_served g.J.Jobs.gives g.I.Source.source g.O.Target.target c.args.shared.now _ _ _ _ _ served in
    record { passes = served_of_run {I = g.row.I.Denot} {O = g.row.O.Denot} c.args.shared.now g.I.Source.source g.O.Target.target ended.0 _ ended.2 }

pub returns-in-Ok-ends_in_order-clause-served : goal.returns-in-Ok-ends_in_order-clause-served
returns-in-Ok-ends_in_order-clause-served g c =
    let told = c.in-Ok-run_at.ensures.told in
    let once = c.in-Ok-ends_in_order.ensures told.0 (map worker_of c.in-Ok.worker_setups.items) told.2 in
    let served = over_own g.J.Jobs.gives g.I.Source.source g.O.Target.target _ c.args.shared.now _ _ _ _ _ _ c.new.ensures c.in-Ok.ensures.workers told.0 told.1 once in
    if_ok_three _ _ _ _ c.finish.result
    (λ closed whole history sums. serves_source g.J.Jobs.gives g.I.Source.source g.O.Target.target c.args.shared.now _ _ c.args.workers _ _ _ closed refl whole history sums served) c.finish.ensures.ends c.finish.ensures.history c.finish.ensures.totals

pub returns-in-Ok-ends_in_order-clause-fault : goal.returns-in-Ok-ends_in_order-clause-fault
returns-in-Ok-ends_in_order-clause-fault g c =
    let told = c.in-Ok-run_at.ensures.told in
    let once = c.in-Ok-ends_in_order.ensures told.0 (map worker_of c.in-Ok.worker_setups.items) told.2 in
    let served = over_own g.J.Jobs.gives g.I.Source.source g.O.Target.target _ c.args.shared.now _ _ _ _ _ _ c.new.ensures c.in-Ok.ensures.workers told.0 told.1 once in
    IfErr-weaker c.finish.result _ _ (λ fault is. leaves_after g.J.Jobs.gives g.I.Source.source g.O.Target.target c.args.shared.now _ _ c.args.workers _ _ _ refl served fault is) c.finish.ensures.fault

pub returns-in_default-clause-fault : goal.returns-in_default-clause-fault
returns-in_default-clause-fault g c = ([], inl (inl refl))

pub returns-in-Err-ends_in_order-clause-fault : goal.returns-in-Err-ends_in_order-clause-fault
returns-in-Err-ends_in_order-clause-fault g c = let told = c.in-Ok-run_at.ensures.told in (told.0, inr told.1)

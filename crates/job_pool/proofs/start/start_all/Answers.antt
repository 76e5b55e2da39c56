use Rattle.std.proofs.Common.{arith, length, ◌≡◌, ◌∙◌, ap, sym, subst, ◌++◌, map}
use Rattle.std.specs.Vec.Iter.{into_iter_items}
use Rattle.job_pool.specs.Lists.{Every}
use Rattle.job_pool.specs.Workers.{IsNew, IsOn, state_before, worker_of}
use Rattle.job_pool.proofs.Lists.{all_snoc}
use Rattle.job_pool.proofs.Starting.{room_left, started}
use Rattle.job_pool.proofs.start.start_all.Goals as goal

pub loop-worker_setup-preserved : goal.loop-worker_setup-preserved
loop-worker_setup-preserved g c =
    let On = IsOn {W = g.row.S-Worker.Denot} {J = g.row.S-Job.Denot} {K = g.row.K.Denot} c.args.queue.now.table.shared.table_id c.args.service.now in
    let was = c.loop-worker_setup.invariant in
    let child = c.in-Ok-start_one.child in
    let worker_setup = c.in-Some.worker_setup in
    let is = c.in-Ok-start_one.ensures in
    let cut = c.in-Some.ensures.steps.0 in
    let rest = into_iter_items c.next.new.self in
    let firsts = map worker_of c.args.worker_setups.items in
    let items = c.push_reserved.ensures.items in (
      is.queue.0,
      is.queue.1,
      subst (λ cs. Every On cs) (sym items) (all_snoc On c.loop-worker_setup.children.items child was.2 is.child.0),
      subst (λ cs. map state_before cs ++ map worker_of rest ≡ firsts) (sym items)
          (started state_before c.loop-worker_setup.children.items child worker_setup.worker (map worker_of (into_iter_items c.loop-worker_setup.worker_setup-iterator)) (map worker_of rest) firsts is.child.1 (ap (λ ss. map worker_of ss) cut) was.3),
      (subst (λ ss. Every (IsNew g.K.Sink.told g.K.Sink.has_room) ss) cut was.4).1,
      room_left _ _ worker_setup _ _ child _ _ cut items c.push_reserved.ensures.capacity was.5,
    )

pub loop-worker_setup-init : goal.loop-worker_setup-init
loop-worker_setup-init g c =
    let On = IsOn {W = g.row.S-Worker.Denot} {J = g.row.S-Job.Denot} {K = g.row.K.Denot} c.args.queue.now.table.shared.table_id c.args.service.now in
    let none = c.in-Ok.ensures.items ∙ c.requires.none in
    let all = c.into_iter-worker_setup-iterator.ensures.into_iter_gives.0 in (
      c.requires.queue.0,
      c.requires.queue.1,
      subst (λ cs. Every On cs) (sym none) tt,
      subst (λ cs. map state_before cs ++ map worker_of (into_iter_items c.into_iter-worker_setup-iterator.result) ≡ map worker_of c.args.worker_setups.items) (sym none) (ap (λ ss. map worker_of ss) all),
      subst (λ ss. Every (IsNew g.K.Sink.told g.K.Sink.has_room) ss) (sym all) c.requires.new,
      omega (arith, ap length all, ap length none, c.in-Ok.ensures.ok, c.len.ensures),
    )

pub start_one-requires-clause-queue : goal.start_one-requires-clause-queue
start_one-requires-clause-queue g c κs within = (c.loop-worker_setup.invariant.0, c.loop-worker_setup.invariant.1)

pub start_one-requires-clause-accepts : goal.start_one-requires-clause-accepts
start_one-requires-clause-accepts g c κs within = c.requires.accepts

pub start_one-requires-clause-new : goal.start_one-requires-clause-new
start_one-requires-clause-new g c κs within = (subst (λ ss. Every (IsNew g.K.Sink.told g.K.Sink.has_room) ss) c.in-Some.ensures.steps.0 c.loop-worker_setup.invariant.4).0

pub returns-in-Err-clause-queue : goal.returns-in-Err-clause-queue
returns-in-Err-clause-queue g c = c.start_one.ensures.queue

pub returns-in-Err-clause-children : goal.returns-in-Err-clause-children
returns-in-Err-clause-children g c = c.loop-worker_setup.invariant.2

pub returns-in-Err-clause-fault : goal.returns-in-Err-clause-fault
returns-in-Err-clause-fault g c = c.in-Err.ensures.fault

pub returns-clause-queue : goal.returns-clause-queue
returns-clause-queue g c = (c.loop-worker_setup.invariant.0, c.loop-worker_setup.invariant.1)

pub returns-clause-children : goal.returns-clause-children
returns-clause-children g c = c.loop-worker_setup.invariant.2

use Rattle.std.proofs.Common.{◌≡◌, ◌+◌, arith, ◌∙◌, ap, sym, subst, refl, length, map}
use Rattle.std.specs.Vec.Iter.{into_iter_items}
use Rattle.crossbeam_queue.specs.Passes.{view}
use Rattle.job_pool.specs.Lists.{Every}
use Rattle.job_pool.specs.Ends.{IsWorkerJoined}
use Rattle.job_pool.specs.Telling.{HasPlaces}
use Rattle.job_pool.specs.Workers.{IsOn, state_before}
use Rattle.job_pool.proofs.Joining.{none_joined, one_joined}
use Rattle.job_pool.proofs.Rule.{learns}
use Rattle.job_pool.proofs.join.join_all.Goals as goal

pub loop-child-init : goal.loop-child-init
loop-child-init g c =
    let On = IsOn {W = g.row.S-Worker.Denot} {J = g.row.S-Job.Denot} {K = g.row.K.Denot} c.args.queue.now.table.shared.table_id c.args.service.value in
    let Serves = g.S.Service.serves c.args.service.value in
    let pass = view c.args.pass.now in
    let told = c.args.told.now in
    let same = c.into_iter-child-iterator.ensures.into_iter_gives.0 in
    let none = c.requires.told.0 in (
      subst (λ cs. Every On cs) (sym same) c.requires.children,
      c.requires.queue.0,
      c.requires.queue.1,
      refl,
      subst (λ cs. HasPlaces told (length cs)) (sym same) c.requires.told.1,
      none_joined Serves g.K.Sink.told pass.given pass.taken (map state_before c.args.children.items) (map state_before (into_iter_items c.into_iter-child-iterator.result)) told.workers.items told.sinks.items told.given told.refused
          c.requires.taken (ap (λ cs. map state_before cs) same) none.0 none.1 none.2 none.3,
    )

pub loop-child-preserved : goal.loop-child-preserved
loop-child-preserved g c =
    let On = IsOn {W = g.row.S-Worker.Denot} {J = g.row.S-Job.Denot} {K = g.row.K.Denot} c.args.queue.now.table.shared.table_id c.args.service.value in
    let Serves = g.S.Service.serves c.args.service.value in
    let was = c.loop-child.invariant in
    let told = c.loop-child.told in
    let child = c.in-Some.child in
    let rest = into_iter_items c.next.new.self in
    let cut = c.in-Some.ensures.steps.0 in
    let each = subst (λ cs. Every On cs) cut was.0 in
    let one = c.join_one-left.ensures in
    let left = c.join_one-left.result in
    let add = c.add.ensures in
    let first = child.promise.worker.value in
    let jobs = (view c.args.pass.now).given in
    let taken = (view c.loop-child.pass).taken in
    let taken' = (view c.join_one-left.new.pass).taken in
    let tells = g.K.Sink.told left.sink in
    let many : length (into_iter_items c.loop-child.child-iterator) ≡ length rest + 1 = omega (arith, ap length cut) in
    let joined = subst (λ js. IsWorkerJoined Serves js taken taken' tells left.taken left.refused first left.worker) was.3
    (subst (λ s. IsWorkerJoined (g.S.Service.serves s) (view c.loop-child.pass).given taken taken' tells left.taken left.refused first left.worker) each.0.1 one.joined) in (
      each.1,
      one.queue.0,
      one.queue.1,
      one.given ∙ was.3,
      add.places (length rest) (subst (HasPlaces told) many was.4),
      one_joined Serves g.K.Sink.told jobs taken taken' (map state_before c.args.children.items) (map state_before (into_iter_items c.loop-child.child-iterator)) (map state_before rest) told.workers.items c.add.new.self.workers.items told.sinks.items
          c.add.new.self.sinks.items first left.worker left.sink told.given left.taken c.add.new.self.given told.refused left.refused c.add.new.self.refused (ap (λ cs. map state_before cs) cut) add.workers add.sinks add.given add.refused joined was.5,
    )

pub learn_as-requires-clause-rule : goal.learn_as-requires-clause-rule
learn_as-requires-clause-rule g c = learns g.H.Accepts.accepts _ _ c.loop-child.invariant.2

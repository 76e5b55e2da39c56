use Rattle.std.proofs.Common.{rules, arith, subst}
use Rattle.std.proofs.lemmas.Grind.{common_steps}
use Rattle.std.specs.Vec.Iter.{into_iter_items}
use Rattle.job_pool.specs.Lists.{Every}
use Rattle.worker_pool.specs.PausedSessions.{CanGoOn}
use Rattle.worker_tests.proofs.Sessions.{joined_none, joined_more, joined_all}
use Rattle.worker_tests.proofs.workers.resting.rest_of.Goals as goal

pub loop-worker-init : goal.loop-worker-init
loop-worker-init c = joined_none c.new-all.result.items (into_iter_items c.into_iter-worker-iterator.result) c.args.workers.items (search rules) (search rules)

pub loop-worker-preserved : goal.loop-worker-preserved
loop-worker-preserved c =
    joined_more c.loop-worker.all.items c.append.new.self.items (into_iter_items c.loop-worker.worker-iterator) (into_iter_items c.next.new.self) c.in-Some.worker _
    c.in-Some.ensures.steps.0 c.in-Ok.ensures.items c.loop-worker.invariant

pub returns : goal.returns
returns c = λ gates may. subst (Every (CanGoOn gates)) (joined_all c.loop-worker.all.items (into_iter_items c.loop-worker.worker-iterator) _ (first_of (search rules, grind (arith, common_steps))) c.loop-worker.invariant) may

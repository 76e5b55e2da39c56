use Rattle.std.proofs.Common.{◌≡◌, ℕ, length}
use Rattle.std.specs.Vec.Iter.{into_iter_items}
use Rattle.job_pool.specs.Workers.{IsNew}
use Rattle.stats_book.specs.Counting.{zeros}
use Rattle.worker_pool.specs.EndReporters.{HasRoom, IsNewServingSetup}
use Rattle.worker_pool.proofs.WorkerSetups.{started_more}
use Rattle.worker_pool.proofs.worker_setup.worker_setups_of.Goals as goal

pub loop-serving_setup-preserved : goal.loop-serving_setup-preserved
loop-serving_setup-preserved g c =
    started_more (IsNewServingSetup g.K.EndSink.told g.K.EndSink.has_room) (IsNew (λ end_reporter. end_reporter.told) (λ end_reporter (n : ℕ). HasRoom g.K.EndSink.has_room end_reporter n)) (λ worker_setup. worker_setup.worker ≡ zeros)
    (into_iter_items c.loop-serving_setup.serving_setup-iterator) (into_iter_items c.next.new.self) c.in-Some.serving_setup c.loop-serving_setup.worker_setups.items c.push.new.self.items c.in-Ok.worker_setup (length c.args.serving_setups.items)
    c.in-Some.ensures.steps.0 c.in-Ok-push.ensures.items c.loop-serving_setup.invariant c.in-Ok.ensures.new c.in-Ok.ensures.worker

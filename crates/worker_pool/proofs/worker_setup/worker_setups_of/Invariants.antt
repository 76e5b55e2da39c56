use Rattle.std.proofs.Common.{◌≡◌, ℕ, length}
use Rattle.std.specs.Vec.Iter.{into_iter_items}
use Rattle.job_pool.specs.Workers.{IsNew}
use Rattle.stats_book.specs.Counting.{zeros}
use Rattle.worker_pool.specs.EndReporters.{HasRoom, IsNewServingSetup}
use Rattle.worker_pool.proofs.WorkerSetups.{AreStarted}
use Rattle.worker_pool.proofs.worker_setup.worker_setups_of.Given as goal

abbrev pub invariant-loop-serving_setup : goal.invariant-loop-serving_setup
invariant-loop-serving_setup g l =
    AreStarted (IsNewServingSetup g.K.EndSink.told g.K.EndSink.has_room) (IsNew (λ end_reporter. end_reporter.told) (λ end_reporter (n : ℕ). HasRoom g.K.EndSink.has_room end_reporter n)) (λ worker_setup. worker_setup.worker ≡ zeros)
    (into_iter_items l.serving_setup-iterator) l.worker_setups.items (length l.fn.serving_setups.items)

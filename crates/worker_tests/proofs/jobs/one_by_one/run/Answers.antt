use Rattle.std.proofs.Common.{◌∙◌, ◌<◌, ap, length, sym, subst}
use Rattle.std.proofs.lemmas.List.{length-map}
use Rattle.job_pool.specs.Workers.{worker_of}
use Rattle.worker_tests.proofs.jobs.one_by_one.run.Goals as goal

-- there are as many setups as workers
pub run_at-requires-clause-some : goal.run_at-requires-clause-some
run_at-requires-clause-some g c κs within =
    let setups = c.in-Ok-collecting_setups.worker_setups.items in
    subst (λ n. 0 < n) (sym (ap length c.in-Ok-collecting_setups.ensures.workers) ∙ length-map setups worker_of) c.requires.some

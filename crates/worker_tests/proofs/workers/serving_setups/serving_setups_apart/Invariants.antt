use Rattle.std.proofs.Common.{◌≡◌, ◌+◌, ◌≤◌, length, vec_len, vec_capacity}
use Rattle.job_pool.specs.Lists.{Every}
use Rattle.worker_pool.specs.EndReporters.{IsNewServingSetup}
use Rattle.worker_tests.proofs.workers.serving_setups.serving_setups_apart.Given as goal

abbrev pub invariant-loop : goal.invariant-loop
invariant-loop l =
    (length l.serving_setups.items ≡ l.counter) × Every (IsNewServingSetup (λ sink. sink.ends.items) (λ sink n. vec_len sink.ends + n ≤ vec_capacity sink.ends)) l.serving_setups.items

use Rattle.std.proofs.Common.{◌≡◌}
use Rattle.std.specs.Prelude.{replicate}
use Rattle.stats_book.specs.Counting.{zeros}
use Rattle.worker_pool.proofs.worker_state.new_worker_states.Given as goal

abbrev pub invariant-loop : goal.invariant-loop
invariant-loop l = l.worker_states.items ≡ replicate l.counter zeros

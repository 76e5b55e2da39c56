use Rattle.std.proofs.Common.{◌≡◌, ◌++◌, List}
use Rattle.std.specs.Vec.Iter.{into_iter_items}
use Rattle.stats_book.specs.Counting.{sum_of}
use Rattle.stats_book.specs.declared.totals.Totals.{Totals}
use Rattle.worker_pool.proofs.worker_state.sum_up.Given as goal

abbrev pub invariant-loop-worker_state : goal.invariant-loop-worker_state
invariant-loop-worker_state l = (done : List Totals) × (done ++ into_iter_items l.worker_state-iterator ≡ l.fn.worker_states.items) × (l.totals ≡ sum_of done)

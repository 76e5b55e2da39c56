use Rattle.std.proofs.Common.{◌≡◌, length}
use Rattle.worker_pool.proofs.kept.new_kept.Given as goal

abbrev pub invariant-loop : goal.invariant-loop
invariant-loop l = length l.workers.items ≡ l.counter

use Rattle.std.proofs.Common.{◌≡◌, length}
use Rattle.worker_pool.proofs.stream_readiness.new_rounds.Given as goal

abbrev pub invariant-loop : goal.invariant-loop
invariant-loop l = length l.posts.items ≡ l.counter

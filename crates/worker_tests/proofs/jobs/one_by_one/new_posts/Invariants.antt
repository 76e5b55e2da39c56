use Rattle.std.proofs.Common.{◌≡◌, length}
use Rattle.worker_tests.proofs.jobs.one_by_one.new_posts.Given as goal

abbrev pub invariant-loop : goal.invariant-loop
invariant-loop l = length l.posts.items ≡ l.counter

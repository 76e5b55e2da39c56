use Rattle.std.proofs.Common.{◌≡◌, ◌+◌, length}
use Rattle.std.specs.Vec.Iter.{into_iter_items}
use Rattle.socket_streams.proofs.waits.new_posts.Given as goal

abbrev pub invariant-loop-worker : goal.invariant-loop-worker
invariant-loop-worker g l = length l.posts.items + length (into_iter_items l.worker-iterator) ≡ length l.fn.workers.items

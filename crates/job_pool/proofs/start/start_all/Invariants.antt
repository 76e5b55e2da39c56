use Rattle.std.proofs.Common.{◌≡◌, ◌+◌, ◌≤◌, ◌++◌, length, map}
use Rattle.std.specs.Prelude.{vec_capacity}
use Rattle.std.specs.Vec.Iter.{into_iter_items}
use Rattle.crossbeam_queue.specs.Passes.{view, IsPassOf}
use Rattle.job_pool.specs.Lists.{Every}
use Rattle.job_pool.specs.Queue.{leader}
use Rattle.job_pool.specs.Workers.{IsNew, IsOn, state_before, worker_of}
use Rattle.job_pool.proofs.start.start_all.Given as goal

abbrev pub invariant-loop-worker_setup : goal.invariant-loop-worker_setup
invariant-loop-worker_setup g l =
    IsPassOf l.queue l.pass × (view l.pass ≡ leader)
    × Every (IsOn l.queue.table.shared.table_id l.service) l.children.items
    × (map state_before l.children.items ++ map worker_of (into_iter_items l.worker_setup-iterator) ≡ map worker_of l.fn.worker_setups.items)
    × Every (IsNew g.K.Sink.told g.K.Sink.has_room) (into_iter_items l.worker_setup-iterator)
    × (length (into_iter_items l.worker_setup-iterator) + length l.children.items ≤ vec_capacity l.children)

use Rattle.std.proofs.Common.{◌≡◌, length, map, true}
use Rattle.std.specs.Vec.Iter.{into_iter_items}
use Rattle.crossbeam_queue.specs.Passes.{view, IsPassOf}
use Rattle.job_pool.specs.Lists.{Every}
use Rattle.job_pool.specs.Workers.{IsOn, state_before}
use Rattle.job_pool.specs.Ends.{AreJoined}
use Rattle.job_pool.specs.Telling.{HasPlaces}
use Rattle.job_pool.proofs.join.join_all.Given as goal

abbrev pub invariant-loop-child : goal.invariant-loop-child
invariant-loop-child g l =
    Every (IsOn l.queue.table.shared.table_id l.service.value) (into_iter_items l.child-iterator)
    × IsPassOf l.queue l.pass × ((view l.pass).leads ≡ true)
    × ((view l.pass).given ≡ (view l.fn.pass).given)
    × HasPlaces l.told (length (into_iter_items l.child-iterator))
    × AreJoined (g.S.Service.serves l.service.value) g.K.Sink.told (view l.fn.pass).given (view l.pass).taken
    (map state_before l.fn.children.items) (map state_before (into_iter_items l.child-iterator)) l.told.workers.items l.told.sinks.items l.told.given l.told.refused

use Rattle.std.proofs.Common.{◌≡◌, [], length, true}
use Rattle.crossbeam_queue.specs.Passes.{view, IsPassOf}
use Rattle.job_pool.specs.Giving.{Gave}
use Rattle.job_pool.proofs.submit.submit_all.Given as goal

abbrev pub invariant-loop : goal.invariant-loop
invariant-loop g l =
    (goal.iterator-loop g).can_next l.iterator' × (goal.iterator-loop g).is_finite l.iterator' × IsPassOf l.queue l.pass
    × ((view l.pass).leads ≡ true) × (l.count ≡ length (view l.pass).given)
    × Gave g.G.Jobs.gives l.fn.jobs (view l.pass).given l.jobs × ((view l.pass).taken ≡ [])

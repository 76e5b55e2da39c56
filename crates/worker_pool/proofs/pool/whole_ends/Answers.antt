use Rattle.std.proofs.Common.{◌∙◌, ◌++◌, map, ap, sym, subst}
use Rattle.worker_pool.specs.JobEnds.{counted_whole}
use Rattle.worker_pool.specs.JobFaults.{MetFullBook}
use Rattle.worker_pool.proofs.Ends.{met_full}
use Rattle.worker_pool.proofs.pool.whole_ends.Goals as goal

pub returns-then-one-clause-fault : goal.returns-then-one-clause-fault
returns-then-one-clause-fault g c =
    let before = map counted_whole c.loop-one.ends.items in
    subst MetFullBook (ap (λ l. before ++ l) (sym c.in-Some.ensures.steps.0) ∙ c.loop-one.invariant) (met_full before c.in-Some.one _ c.if-one.true)

use Rattle.std.proofs.Common.{inr, sym, subst}
use Rattle.gate_node.specs.OneHistory.{CallersAreOfRun}
use Rattle.worker_pool.specs.JobEnds.{WereOfRun, end_passes}
use Rattle.worker_pool.proofs.Faults.{fault_after}
use Rattle.worker_pool.proofs.Histories.{whole_of_run}
use Rattle.worker_pool.proofs.pool.finish.Goals as goal

pub tallies_of-requires : goal.tallies_of-requires
tallies_of-requires g c =
    let shared = c.args.shared.now in
    let whole = subst (λ all. WereOfRun shared all) (sym c.in-Ok.ensures.ends) c.requires.passes in
    subst (λ ends. CallersAreOfRun end_passes shared ends) (sym c.as_slice.ensures.value) (whole_of_run shared c.in-Ok.ends.items whole)

pub returns-in-Err-clause-fault : goal.returns-in-Err-clause-fault
returns-in-Err-clause-fault g c = fault_after c.args.finished.ends.items c.args.finished.workers.items c.in-Err.fault c.in-Err.ensures.fault

pub returns-in_default-clause-fault : goal.returns-in_default-clause-fault
returns-in_default-clause-fault g c = inr (c.in-Ok.ends.items, c.in-Ok.ensures.ends, c.in_default.ensures.past)

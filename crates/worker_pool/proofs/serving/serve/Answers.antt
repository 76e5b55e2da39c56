use Rattle.std.proofs.Common.{[], inl, refl}
use Rattle.worker_pool.proofs.EndReporters.{seen_same}
use Rattle.worker_pool.proofs.serving.serve.Goals as goal

pub returns-in_default-clause-fault : goal.returns-in_default-clause-fault
returns-in_default-clause-fault g c = ([], inl (inl refl))

pub returns-in_default-clause-more : goal.returns-in_default-clause-more
returns-in_default-clause-more g c = seen_same c.args.seen.now.primaries

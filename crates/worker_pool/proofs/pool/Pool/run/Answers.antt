use Rattle.std.proofs.Common.{[], inl, refl}
use Rattle.worker_pool.proofs.pool.Pool.run.Goals as goal

pub returns-in_default-clause-fault : goal.returns-in_default-clause-fault
returns-in_default-clause-fault g c = ([], inl (inl refl))

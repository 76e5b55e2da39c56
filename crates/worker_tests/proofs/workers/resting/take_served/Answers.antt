use Rattle.std.proofs.Common.{map, sym, subst}
use Rattle.job_pool.specs.Lists.{Every, concat}
use Rattle.worker_pool.specs.PausedSessions.{CanGoOn}
use Rattle.worker_tests.proofs.workers.resting.take_served.Goals as goal

pub returns-then-put_resting-clause-rest : goal.returns-then-put_resting-clause-rest
returns-then-put_resting-clause-rest c gates rest old =
    c.put_resting.ensures.rest gates (subst (λ workers. Every (CanGoOn gates) (concat (map (λ one. one.items) workers.items))) (sym c.resting_of.ensures) rest) old

pub returns-else-put_resting-clause-rest : goal.returns-else-put_resting-clause-rest
returns-else-put_resting-clause-rest c gates rest old =
    c.put_resting.ensures.rest gates (subst (λ workers. Every (CanGoOn gates) (concat (map (λ one. one.items) workers.items))) (sym c.resting_of.ensures) rest) old

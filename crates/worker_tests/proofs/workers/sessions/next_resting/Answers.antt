use Rattle.std.proofs.Common.{◌∙◌, subst}
use Rattle.std.proofs.lemmas.List.{append-nil}
use Rattle.job_pool.specs.Lists.{Every}
use Rattle.worker_pool.specs.PausedSessions.{CanGoOn}
use Rattle.worker_tests.proofs.Sessions.{all_left, all_last}
use Rattle.worker_tests.proofs.workers.sessions.next_resting.Goals as goal

pub returns-in-Some-clause-rest : goal.returns-in-Some-clause-rest
returns-in-Some-clause-rest c = λ gates may. all_left (CanGoOn gates) _ _ (subst (Every (CanGoOn gates)) c.in-Some.ensures.items may)

pub returns-in-Some-clause-one : goal.returns-in-Some-clause-one
returns-in-Some-clause-one c = λ gates may. all_last (CanGoOn gates) _ _ (subst (Every (CanGoOn gates)) c.in-Some.ensures.items may)

pub returns-in-None-clause-rest : goal.returns-in-None-clause-rest
returns-in-None-clause-rest c = λ gates may. subst (Every (CanGoOn gates)) (c.in-None.ensures.items ∙ append-nil _) may

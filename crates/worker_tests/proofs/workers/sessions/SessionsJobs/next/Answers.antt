use Rattle.std.proofs.Common.{refl}
use Rattle.worker_tests.proofs.workers.sessions.SessionsJobs.next.Goals as goal

pub returns-in-Some : goal.returns-in-Some
returns-in-Some c = (refl, λ may. (c.in-Some.ensures.rest _ may, c.in-Some.ensures.one _ may))

pub returns-then-self : goal.returns-then-self
returns-then-self c = (refl, λ may. (c.in_default.ensures.rest _ may, tt))

pub returns-else-self : goal.returns-else-self
returns-else-self c = (refl, λ may. (c.in_default.ensures.rest _ may, tt))

pub returns-in-Ok : goal.returns-in-Ok
returns-in-Ok c = (refl, λ may. (c.in_default.ensures.rest _ may, c.in-Ok.ensures))

pub returns-in-Err : goal.returns-in-Err
returns-in-Err c = (refl, λ may. (c.in_default.ensures.rest _ may, tt))

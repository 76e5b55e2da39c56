use Rattle.worker_tests.proofs.Sessions.{goes_on_later}
use Rattle.worker_tests.proofs.workers.resting.turned.divert_under.Goals as goal

pub returns-in-Some-clause-rest : goal.returns-in-Some-clause-rest
returns-in-Some-clause-rest c =
    goes_on_later c.args.shared c.in-Some.later _ (c.in-Some.ensures.later c.requires.budget c.requires.reads) c.requires.rest

pub returns-in-Some-clause-seen : goal.returns-in-Some-clause-seen
returns-in-Some-clause-seen c = c.in-Some.ensures.passes _ c.requires.seen

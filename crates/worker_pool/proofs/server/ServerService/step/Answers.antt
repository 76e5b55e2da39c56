use Rattle.std.proofs.Common.{inl, inr}
use Rattle.worker_pool.specs.JobEnds.{session_of}
use Rattle.worker_pool.proofs.server.ServerService.step.Goals as goal

pub returns-clause-stands : goal.returns-clause-stands
returns-clause-stands g c = λ job. c.step.ensures.stands (session_of g.I.Source.source g.O.Target.target c.args.self.now.session_service job)

pub returns-clause-over : goal.returns-clause-over
returns-clause-over g c = λ over. elim (c.step.ensures.over over) [ inl is ↦ is | inr may ↦ absurd may ]

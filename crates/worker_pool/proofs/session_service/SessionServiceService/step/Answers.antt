use Rattle.worker_pool.proofs.session_service.SessionServiceService.step.Goals as goal

pub returns-clause-stands : goal.returns-clause-stands
returns-clause-stands g c = λ session. c.step.ensures.stays c.args.self.now session

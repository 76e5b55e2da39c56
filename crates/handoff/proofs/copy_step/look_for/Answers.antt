use Rattle.handoff.proofs.copy_step.look_for.Goals as goal

pub returns-clause-stop : goal.returns-clause-stop
returns-clause-stop g c = c.look_under-found.ensures.stop

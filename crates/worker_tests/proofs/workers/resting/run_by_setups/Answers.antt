use Rattle.worker_tests.proofs.workers.resting.run_by_setups.Goals as goal

pub play-requires-clause-rest : goal.play-requires-clause-rest
play-requires-clause-rest g c κs within = c.take_resting.ensures.given c.args.shared.now c.requires.rest

pub returns-in-Ok-clause-rest : goal.returns-in-Ok-clause-rest
returns-in-Ok-clause-rest g c =
    c.take_served.ensures.rest c.args.shared.now c.in-Ok.ensures.resting (c.take_resting.ensures.none c.args.shared.now)

pub returns-in-Err-clause-rest : goal.returns-in-Err-clause-rest
returns-in-Err-clause-rest g c = c.take_resting.ensures.none c.args.shared.now

use Rattle.job_pool.proofs.pool.run_lent.Given as goal

abbrev pub ghosts-run_owned : goal.ghosts-run_owned
ghosts-run_owned g a = record { accepts = g.S.Service.accepts a.service.now }

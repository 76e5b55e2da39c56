use Rattle.worker_pool.proofs.pool.Pool.run.Given as goal

abbrev pub ghosts-run_at_posts : goal.ghosts-run_at_posts
ghosts-run_at_posts g a = record { gates = a.shared.now }

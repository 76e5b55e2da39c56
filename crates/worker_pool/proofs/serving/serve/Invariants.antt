use Rattle.worker_pool.proofs.serving.serve.Given as goal

abbrev pub ghosts-serve : goal.ghosts-serve
ghosts-serve g a = record { gates = a.shared.now }

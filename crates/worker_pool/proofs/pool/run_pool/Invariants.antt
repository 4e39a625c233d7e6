use Rattle.worker_pool.proofs.pool.run_pool.Given as goal

abbrev pub ghosts-run-L-Ledger : goal.ghosts-run-L-Ledger
ghosts-run-L-Ledger g a = record { name = a.jobs.name; parts = a.jobs.parts }

abbrev pub ghosts-run-M-Ledger : goal.ghosts-run-M-Ledger
ghosts-run-M-Ledger g a = record { name = a.accepted.name; parts = a.accepted.parts }

use Rattle.worker_tests.proofs.playing.play_on.Given as goal

abbrev pub ghosts-play_by-G-Ledger : goal.ghosts-play_by-G-Ledger
ghosts-play_by-G-Ledger g a = record { name = a.blanks.gets.name; parts = a.blanks.gets.parts }

abbrev pub ghosts-play_by-P-Ledger : goal.ghosts-play_by-P-Ledger
ghosts-play_by-P-Ledger g a = record { name = a.blanks.puts.name; parts = a.blanks.puts.parts }

abbrev pub ghosts-play_by-D-Ledger : goal.ghosts-play_by-D-Ledger
ghosts-play_by-D-Ledger g a = record { name = a.blanks.deletes.name; parts = a.blanks.deletes.parts }

abbrev pub ghosts-play_by-E-Ledger : goal.ghosts-play_by-E-Ledger
ghosts-play_by-E-Ledger g a = record { name = a.blanks.refusals.name; parts = a.blanks.refusals.parts }

abbrev pub ghosts-play_by-R-Ledger : goal.ghosts-play_by-R-Ledger
ghosts-play_by-R-Ledger g a = record { name = a.blanks.reaps.name; parts = a.blanks.reaps.parts }

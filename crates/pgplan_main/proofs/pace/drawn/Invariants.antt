use Rattle.pgplan_main.proofs.pace.drawn.Given as goal

abbrev pub ghosts-counted-L-Ledger : goal.ghosts-counted-L-Ledger
ghosts-counted-L-Ledger a = record { name = a.fetching.name; parts = a.fetching.parts }

abbrev pub ghosts-counted-M-Ledger : goal.ghosts-counted-M-Ledger
ghosts-counted-M-Ledger a = record { name = a.reading.name; parts = a.reading.parts }

use Rattle.pgplan.proofs.sample.summarize.Given as goal

abbrev pub ghosts-summed-L-Ledger : goal.ghosts-summed-L-Ledger
ghosts-summed-L-Ledger g a = record { name = a.fetching.name; parts = a.fetching.parts }

abbrev pub ghosts-summed-M-Ledger : goal.ghosts-summed-M-Ledger
ghosts-summed-M-Ledger g a = record { name = a.reading.name; parts = a.reading.parts }

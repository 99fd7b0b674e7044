use Rattle.worked_rows.proofs.cases.is_told.Given as goal

abbrev pub ghosts-is_counted-L-Ledger : goal.ghosts-is_counted-L-Ledger
ghosts-is_counted-L-Ledger a = record { name = a.fetching.name; parts = a.fetching.parts }

abbrev pub ghosts-is_counted-M-Ledger : goal.ghosts-is_counted-M-Ledger
ghosts-is_counted-M-Ledger a = record { name = a.reading.name; parts = a.reading.parts }

use Rattle.predicate_proof.proofs.notes.+mark.Given as goal

-- the levels that are left
abbrev pub decreases-mark : goal.decreases-mark
decreases-mark l = l.levels

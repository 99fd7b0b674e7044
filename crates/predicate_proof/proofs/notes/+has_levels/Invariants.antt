use Rattle.predicate_proof.proofs.notes.+has_levels.Given as goal

-- the levels that are left
abbrev pub decreases-has_levels : goal.decreases-has_levels
decreases-has_levels l = l.levels

use Rattle.predicate_proof.specs.work.Notes.{AreRight}
use Rattle.predicate_proof.proofs.conditions.+note_clauses.Given as goal

-- the levels that are left
abbrev pub decreases-note_clauses : goal.decreases-note_clauses
decreases-note_clauses l = l.levels

-- the notes stay right
abbrev pub invariant-loop-part : goal.invariant-loop-part
invariant-loop-part l = AreRight l.columns l.notes

use Rattle.predicate_proof.specs.work.Notes.{AreRight}
use Rattle.predicate_proof.proofs.conditions.+note_goals.Given as goal

-- the levels that are left
abbrev pub decreases-note_goals : goal.decreases-note_goals
decreases-note_goals l = l.levels

-- the notes stay right
abbrev pub invariant-loop-part : goal.invariant-loop-part
invariant-loop-part l = AreRight l.columns l.notes

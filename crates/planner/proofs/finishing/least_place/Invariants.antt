use Rattle.planner.proofs.PlaceLemmas.{IsLeastSoFar}
use Rattle.planner.proofs.finishing.least_place.Given as goal

-- the least price of the paths so far, and where it is
abbrev pub invariant-loop-at : goal.invariant-loop-at
invariant-loop-at l = IsLeastSoFar l.cat l.q l.paths l.best l.at

use Rattle.plan_check.specs.work.Ranking.{AreFirstPlaces}
use Rattle.plan_check.proofs.ranking.places.Given as goal

-- the places before it are there
abbrev pub invariant-loop-k : goal.invariant-loop-k
invariant-loop-k l = AreFirstPlaces l.all.items l.k

use Rattle.planner.proofs.TableLemmas.{IsRelationSoFar}
use Rattle.planner.proofs.base.add_each.Given as goal

-- the scans with the parameterisations so far
abbrev pub invariant-loop-bits : goal.invariant-loop-bits
invariant-loop-bits l = IsRelationSoFar l.cat l.q l.fn.table l.table l.at.rel.0 l.at.set l.bits

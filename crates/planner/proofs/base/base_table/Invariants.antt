use Rattle.planner.proofs.TableLemmas.{IsBaseSoFar}
use Rattle.planner.proofs.base.base_table.Given as goal

-- the scans of the relations so far
abbrev pub invariant-loop-r : goal.invariant-loop-r
invariant-loop-r l = IsBaseSoFar l.cat l.q l.table l.r

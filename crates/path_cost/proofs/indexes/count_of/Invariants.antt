use Rattle.std.proofs.Common.{◌≡◌, ◌≤◌, ◌+◌, drop, length}
use Rattle.pg_expr.specs.work.AtomSets.{contains}
use Rattle.path_cost.specs.Estimates.{conditions_from}
use Rattle.path_cost.proofs.indexes.count_of.Given as goal

-- the clauses of the set that are left, with those counted so far, are all of them
abbrev pub invariant-loop-n : goal.invariant-loop-n
invariant-loop-n l = record {
  count : l.count + length (conditions_from l.n (contains l.set) (drop l.n l.classes.clauses)) ≡ length (conditions_from 0 (contains l.set) l.classes.clauses);
  few : l.count ≤ l.n;
}

use Rattle.std.proofs.Common.{◌≡◌, ◌≤◌, length}
use Rattle.path_cost.specs.work.Estimates.{either}
use Rattle.path_cost.specs.Ranges.{conditions}
use Rattle.path_cost.proofs.KeptLemmas.{left_after}
use Rattle.path_cost.proofs.estimates.left_of.Given as goal

-- the clauses that are left, after the rows so far, leave what all do
abbrev pub invariant-loop-n : goal.invariant-loop-n
invariant-loop-n l = record {
  rows : left_after l.cat l.range (conditions l.classes) (either l.one l.other) (length l.classes.clauses) l.n l.left ≡ left_after l.cat l.range (conditions l.classes) (either l.one l.other) (length l.classes.clauses) 0 l.fn.rows;
  some : 1 ≤ l.left;
}

use Rattle.std.proofs.Common.{◌≡◌, ◌≤◌, map, length}
use Rattle.pg_expr.specs.work.AtomSets.{contains}
use Rattle.pg_expr.specs.work.View as view
use Rattle.path_cost.proofs.KeptLemmas.{left_after}
use Rattle.path_cost.proofs.indexes.after_parts.Given as goal

-- the parts that are left, after the rows so far, leave what all do
abbrev pub invariant-loop-n : goal.invariant-loop-n
invariant-loop-n l = record {
  rows : left_after l.cat l.range (map view.cond l.parts) (contains l.chosen) (length (map view.cond l.parts)) l.n l.left ≡ left_after l.cat l.range (map view.cond l.parts) (contains l.chosen) (length (map view.cond l.parts)) 0 l.fn.rows;
  some : 1 ≤ l.left;
}

use Rattle.std.proofs.Common.{◌≡◌, ◌≤◌, ◌-◌, length}
use Rattle.pg_base.specs.Sets.{has}
use Rattle.exact_rows.specs.work.Rows.{most_of}
use Rattle.path_cost.specs.Estimates.{set_numbers_from, product_from, product_rows, relations}
use Rattle.path_cost.proofs.estimates.product.Given as goal

-- the relations that are left, after the rows so far, give the rows of all
abbrev pub invariant-loop-n : goal.invariant-loop-n
invariant-loop-n l = record {
  rows : product_from l.cat l.range l.rows (set_numbers_from l.n (length l.range - l.n) (has l.s.0)) ≡ product_rows l.cat l.range (relations l.range (has l.s.0));
  some : 1 ≤ l.rows;
  room : l.rows ≤ most_of l.n;
}

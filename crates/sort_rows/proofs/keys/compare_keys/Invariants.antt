use Rattle.std.proofs.Common.{◌≡◌, drop, map}
use Rattle.sort_rows.specs.work.Columns.{columns_order}
use Rattle.sort_rows.proofs.keys.compare_keys.Given as goal

abbrev pub invariant-loop-i : goal.invariant-loop-i
invariant-loop-i l = columns_order (drop l.i l.columns) (drop l.i (map (λ v. v.now) l.a)) (drop l.i (map (λ v. v.now) l.b)) ≡ columns_order l.columns (map (λ v. v.now) l.a) (map (λ v. v.now) l.b)

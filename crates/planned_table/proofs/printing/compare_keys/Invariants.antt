use Rattle.std.proofs.Common.{◌≡◌, ◌≤◌, drop, length}
use Rattle.std.specs.Cmp.Lexicographic.{slice_cmp}
use Rattle.std.specs.Ordering.{nat_cmp}
use Rattle.pathkeys.specs.work.Finding.{class_numbers}
use Rattle.planned_table.proofs.printing.compare_keys.Given as goal

abbrev pub invariant-loop-n : goal.invariant-loop-n
invariant-loop-n l = record {
  within : l.n ≤ length l.b;
  same : slice_cmp nat_cmp (class_numbers (drop l.n l.a)) (class_numbers (drop l.n l.b)) ≡ slice_cmp nat_cmp (class_numbers l.a) (class_numbers l.b);
}

use Rattle.std.proofs.Common.{◌≡◌, ◌≤◌, [], drop, length, drop_of_length-le, ap, arith}
use Rattle.pg_expr.specs.Columns.{atom_count_of}
use Rattle.pg_expr.specs.work.View.{conds}
use Rattle.pg_expr.proofs.counts.+ops.Goals as goal

-- nothing is left
pub ops_of-returns : goal.ops_of-returns
ops_of-returns t c =
    let le : length c.args.parts.now ≤ c.loop-part.part-index = omega arith in
    let none : drop c.loop-part.part-index c.args.parts.now ≡ [] = drop_of_length-le c.args.parts.now le in
    omega (arith, c.loop-part.invariant.sum, ap (λ rest. atom_count_of (conds rest)) none)

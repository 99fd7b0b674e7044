use Rattle.std.proofs.Common.{◌≡◌, ◌≤◌, [], drop, length, drop_of_length-le, ap, arith}
use Rattle.pg_expr.specs.Columns.{atom_count_of}
use Rattle.pg_expr.specs.work.View.{conds}
use Rattle.query_reader.proofs.conditions.atoms.Goals as goal

-- nothing is left
pub returns : goal.returns
returns c =
    let le : length c.args.written.now ≤ c.loop-part.part-index = omega arith in
    let none : drop c.loop-part.part-index c.args.written.now ≡ [] = drop_of_length-le c.args.written.now le in
    omega (arith, c.loop-part.invariant.sum, ap (λ rest. atom_count_of (conds rest)) none)

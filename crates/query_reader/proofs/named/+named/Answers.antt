use Rattle.std.proofs.Common.{◌≡◌, ◌++◌, ◌≤◌, [], drop, length, drop_of_length-le, sym, ap, ◌∙◌, arith, append-nil}
use Rattle.pg_expr.specs.work.View.{conds}
use Rattle.query_reader.specs.Named.{columns_in_all}
use Rattle.query_reader.proofs.named.+named.Goals as goal

-- nothing is left
pub columns_in_all-returns : goal.columns_in_all-returns
columns_in_all-returns t c =
    let le : length c.args.parts.now ≤ c.loop-part.part-index = omega arith in
    let none : drop c.loop-part.part-index c.args.parts.now ≡ [] = drop_of_length-le c.args.parts.now le in
    sym (append-nil _) ∙ ap (λ rest. c.loop-part.all.items ++ columns_in_all (conds rest)) (sym none) ∙ c.loop-part.invariant

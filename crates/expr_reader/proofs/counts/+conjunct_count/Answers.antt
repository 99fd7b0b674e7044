use Rattle.std.proofs.Common.{◌≡◌, ◌≤◌, [], drop, length, drop_of_length-le, ap, ◌∙◌, arith}
use Rattle.pg_expr.specs.Conjuncts.{conjuncts_of}
use Rattle.pg_expr.specs.Pushed.{group_of, pushed_parts}
use Rattle.pg_expr.specs.work.View.{conds}
use Rattle.expr_reader.specs.work.Counts.{count_of}
use Rattle.expr_reader.proofs.CountLemmas.{all-counted, each_counted}
use Rattle.expr_reader.proofs.counts.+conjunct_count.Goals as goal

-- nothing is left
pub group_count-returns : goal.group_count-returns
group_count-returns t c =
    let negated = c.args.negated in
    let cs = conds c.args.parts.now in
    let le : length c.args.parts.now ≤ c.loop-part.part-index = omega arith in
    let none : drop c.loop-part.part-index c.args.parts.now ≡ [] = drop_of_length-le c.args.parts.now le in
    let all : count_of (conjuncts_of (group_of c.args.any (pushed_parts negated c.args.any cs))) ≡ each_counted negated cs =
    ap (λ any. count_of (conjuncts_of (group_of any (pushed_parts negated any cs)))) c.if-any.false ∙ all-counted negated cs in
    omega (arith, c.loop-part.invariant.sum, ap (λ rest. each_counted negated (conds rest)) none, all)

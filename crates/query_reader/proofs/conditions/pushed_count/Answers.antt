use Rattle.std.proofs.Common.{◌≡◌, ◌≤◌, [], drop, length, map, drop_of_length-le, ap, arith}
use Rattle.pg_expr.specs.work.View.{cond}
use Rattle.eq_classes.specs.Classes.{conjuncts_in}
use Rattle.query_reader.proofs.ConjunctLemmas.{counted-more}
use Rattle.query_reader.proofs.conditions.pushed_count.Goals as goal

pub loop-part-preserved : goal.loop-part-preserved
loop-part-preserved c =
    let more = counted-more c.args.written.now c.loop-part.part-index c.part-item.result c.loop-part-test.true c.part-item.is in
    record {
      sum = omega (arith, c.loop-part.invariant.sum, c.loop-part.invariant.fits, c.conjunct_count.ensures, c.saturating_add-count.ensures, more);
      fits = omega (arith, c.loop-part.invariant.fits, c.saturating_add-count.ensures);
    }

-- nothing is left
pub returns : goal.returns
returns c =
    let le : length c.args.written.now ≤ c.loop-part.part-index = omega arith in
    let none : drop c.loop-part.part-index c.args.written.now ≡ [] = drop_of_length-le c.args.written.now le in
    omega (arith, c.loop-part.invariant.sum, ap (λ rest. length (conjuncts_in (map cond rest))) none)

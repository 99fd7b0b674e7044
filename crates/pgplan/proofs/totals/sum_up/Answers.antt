use Rattle.std.proofs.Common.{arith}
use Rattle.std.proofs.lemmas.Result.{err_from_is_err_and}
use Rattle.pgplan.proofs.SummingLemmas.{tallied_further, tally_stopped}
use Rattle.pgplan.proofs.totals.sum_up.Goals as goal

pub returns-in_err-tallied-clause-ended : goal.returns-in_err-tallied-clause-ended
returns-in_err-tallied-clause-ended g c =
    let p = err_from_is_err_and c.from_residual.result c.from_residual.ensures.1 in
    rw (p.1, p.2)
    (tally_stopped c.in_err-tallied.field-0.0 _ _ _ _ _ _ _ c.statements.invariant.way c.statements-test.true c.in_err-tallied.ensures.unchanged c.in_err-tallied.ensures.stopped)

pub statements-preserved : goal.statements-preserved
statements-preserved g c =
    let ahead = c.in_ok-tallied.ensures.ahead c.statements-test.true in
    record {
      way =
          rw (c.added-totals.ensures.queries, c.added-totals.ensures.rows, c.added-totals.ensures.cost)
          (tallied_further _ _ _ _ _ _ _ _ _ c.statements.invariant.way c.statements-test.true c.in_ok-tallied.ensures.done);
      within = c.in_ok-tallied.ensures.inside;
      few = omega (arith, c.added-totals.ensures.few, c.statements.invariant.few, ahead);
      rows = omega (arith, c.added-totals.ensures.small.0, c.statements.invariant.rows, ahead);
      cost = omega (arith, c.added-totals.ensures.small.1, c.statements.invariant.cost, ahead);
    }

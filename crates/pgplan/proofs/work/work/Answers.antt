use Rattle.std.proofs.Common.{◌∙◌}
use Rattle.std.proofs.lemmas.Result.{err_from_is_err_and}
use Rattle.pgplan.proofs.ScriptLemmas.{step_further, stopped}
use Rattle.pgplan.proofs.work.work.Goals as goal

pub returns-in_err-at-clause-ended : goal.returns-in_err-at-clause-ended
returns-in_err-at-clause-ended g c =
    let p = err_from_is_err_and c.from_residual.result c.from_residual.ensures.1 in
    rw (p.1, p.2)
    (stopped c.in_err-at.field-0.0 _ _ _ _ _ _ _ c.statements.invariant.way c.statements-test.true c.in_err-at.ensures.unchanged c.in_err-at.ensures.stopped)

pub statements-preserved : goal.statements-preserved
statements-preserved g c = record {
  way = step_further _ _ _ _ _ _ _ _ c.statements.invariant.way c.statements-test.true c.in_ok-at.ensures.done;
  within = c.in_ok-at.ensures.inside;
  quiet = c.in_ok-at.ensures.cause.quiet (λ wrong. cc) ∙ c.statements.invariant.quiet;
}

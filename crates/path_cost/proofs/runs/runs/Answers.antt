use Rattle.std.proofs.Common.{◌∙◌, Some, sym, ap, subst, arith, length}
use Rattle.std.specs.Prelude.{IfSome}
use Rattle.pg_base.specs.Sets.{has}
use Rattle.eq_classes.specs.Clauses.{Set}
use Rattle.cost_rules.specs.work.Costs.{IsEstimate}
use Rattle.path_cost.specs.Estimates.{set_rows}
use Rattle.path_cost.proofs.RunLemmas.{least-no, least-yes, lesser-estimate}
use Rattle.path_cost.proofs.runs.runs.Goals.{then-has, else-has}
use Rattle.path_cost.proofs.runs.runs.Goals as goal

pub loop-n-preserved : goal.loop-n-preserved
loop-n-preserved c =
    let contents = c.args.cat.now in
    let range = c.args.range.now in
    let t = c.args.classes.now in
    let p = has c.args.p.0 in
    let n = c.loop-n.n in
    elim c.if-has.branch [
      | then-has w ↦ record {
        runs = least-yes contents range t p n w.rows.result c.loop-n.least c.if-has.least _
            (omega (arith, c.loop-n-test.true, ap length c.items-n-end.ensures)) (sym c.has.ensures ∙ w.if-has.true)
            (w.rows.ensures.rows ∙ ap (λ (s : Set). set_rows contents range t s) (λ i k. w.one.ensures k i))
            (w.least-is ∙ ap Some w.lesser.ensures) c.loop-n.invariant.runs;
        estimate = subst (λ o. IfSome o IsEstimate) (sym (w.least-is ∙ ap Some w.lesser.ensures))
            (lesser-estimate c.loop-n.least w.rows.result c.loop-n.invariant.estimate w.rows.ensures.estimate);
      }
      | else-has w ↦ record {
        runs = least-no contents range t p n c.loop-n.least c.if-has.least _
            (omega (arith, c.loop-n-test.true, ap length c.items-n-end.ensures)) (sym c.has.ensures ∙ w.if-has.false) w.least-is c.loop-n.invariant.runs;
        estimate = subst (λ o. IfSome o IsEstimate) (sym w.least-is) c.loop-n.invariant.estimate;
      }
    ]

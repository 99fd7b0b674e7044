use Rattle.std.proofs.Common.{◌∙◌, ◌-◌, ◌^◌, min, sym, ap, arith}
use Rattle.pg_expr.specs.Columns.{atom_count}
use Rattle.path_cost.specs.work.Estimates.{either_but}
use Rattle.path_cost.proofs.CostLemmas.{sum-yes, sum-no, sum-all}
use Rattle.path_cost.proofs.scans.operators_of.Goals.{then-is_left, else-is_left}
use Rattle.path_cost.proofs.scans.operators_of.Goals as goal

pub loop-n-preserved : goal.loop-n-preserved
loop-n-preserved c =
    let ks = c.args.classes.now.clauses in
    let chosen = either_but c.args.one.now c.args.other.now c.args.but.now in
    elim c.if-is_left.branch [
      | then-is_left w ↦ record {
        operators = sum-yes ks chosen c.loop-n.n c.loop-n.sum w.ops.result c.if-is_left.sum _
            (omega (arith, c.loop-n-test.true, c.count-n-end.ensures.count)) (sym c.is_left.ensures ∙ w.if-is_left.true)
            (w.ops.ensures ∙ ap (λ e. min (atom_count e) (2 ^ 64 - 1)) w.clause.ensures) (w.sum-is ∙ w.saturating_add-sum.ensures) c.loop-n.invariant.operators;
        fits = omega (arith, w.sum-is, w.saturating_add-sum.ensures);
      }
      | else-is_left w ↦ record {
        operators = sum-no ks chosen c.loop-n.n c.loop-n.sum c.if-is_left.sum _
            (omega (arith, c.loop-n-test.true, c.count-n-end.ensures.count)) (sym c.is_left.ensures ∙ w.if-is_left.false) w.sum-is c.loop-n.invariant.operators;
        fits = omega (arith, w.sum-is, c.loop-n.invariant.fits);
      }
    ]

pub returns : goal.returns
returns c =
    sum-all c.args.classes.now.clauses (either_but c.args.one.now c.args.other.now c.args.but.now) c.loop-n.n c.loop-n.sum _
    (omega (arith, c.loop-n-test.false, c.count-n-end.ensures.count)) c.loop-n.invariant.fits c.loop-n.invariant.operators

use Rattle.std.proofs.Common.{◌∙◌, sym, arith}
use Rattle.pg_expr.specs.work.AtomSets.{contains}
use Rattle.path_cost.proofs.CountLemmas.{count-yes, count-no, count-all}
use Rattle.path_cost.proofs.indexes.count_of.Goals.{then-has, else-has}
use Rattle.path_cost.proofs.indexes.count_of.Goals as goal

pub loop-n-preserved : goal.loop-n-preserved
loop-n-preserved c =
    let ks = c.args.classes.now.clauses in
    elim c.if-has.branch [
      | then-has w ↦ record {
        count = count-yes ks (contains c.args.set.now) c.loop-n.n c.loop-n.count c.if-has.count _ (omega (arith, c.loop-n-test.true, c.count-n-end.ensures.count)) (sym c.has.ensures ∙ w.if-has.true) w.count-is c.loop-n.invariant.count;
        few = omega (arith, w.count-is, c.loop-n.invariant.few);
      }
      | else-has w ↦ record {
        count = count-no ks (contains c.args.set.now) c.loop-n.n c.loop-n.count c.if-has.count _ (omega (arith, c.loop-n-test.true, c.count-n-end.ensures.count)) (sym c.has.ensures ∙ w.if-has.false) w.count-is c.loop-n.invariant.count;
        few = omega (arith, w.count-is, c.loop-n.invariant.few);
      }
    ]

pub returns : goal.returns
returns c = record {
  count = count-all c.args.classes.now.clauses (contains c.args.set.now) c.loop-n.n c.loop-n.count _ (omega (arith, c.loop-n-test.false, c.count-n-end.ensures.count)) c.loop-n.invariant.count;
}

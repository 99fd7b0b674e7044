use Rattle.std.proofs.Common.{◌<◌, ◌||◌, ◌∙◌, sym, ap, arith, length}
use Rattle.pg_base.specs.Sets.{has}
use Rattle.pg_expr.specs.work.AtomSets.{contains}
use Rattle.pg_base.specs.declared.rel_set.RelSet.{RelSet}
use Rattle.eq_classes.specs.Clauses.{ClassTable}
use Rattle.plan_tree.proofs.NamedLemmas.{named-yes, named-no, named-all}
use Rattle.plan_tree.proofs.make.all_named.Goals.{then-has, else-has}
use Rattle.plan_tree.proofs.make.all_named.Goals as goal

pub loop-n-preserved : goal.loop-n-preserved
loop-n-preserved c =
    let ks = c.args.q.now.classes.clauses in
    let count = ap (λ (t : ClassTable). length t.clauses) c.classes_of.ensures in
    let within : c.loop-n.n < length ks = omega (arith, c.loop-n-test.true, c.count-n-end.ensures.count, count) in
    elim c.if-has.branch [
      | then-has w ↦ λ k. named-yes ks (contains c.args.set.now) c.loop-n.n k (has c.loop-n.named.0 k) _ _ within (sym c.has.ensures ∙ w.if-has.true)
          (ap (λ (s : RelSet). has s.0 k) w.named-is ∙ w.union-named.ensures k ∙ ap (λ b. has c.loop-n.named.0 k || b) (w.clause_relations.ensures k)) (c.loop-n.invariant k)
      | else-has w ↦ λ k. named-no ks (contains c.args.set.now) c.loop-n.n k (has c.loop-n.named.0 k) _ _ within (sym c.has.ensures ∙ w.if-has.false)
          (ap (λ (s : RelSet). has s.0 k) w.named-is) (c.loop-n.invariant k)
    ]

pub returns : goal.returns
returns c =
    let ks = c.args.q.now.classes.clauses in
    let count = ap (λ (t : ClassTable). length t.clauses) c.classes_of.ensures in
    λ k. named-all ks (contains c.args.set.now) c.loop-n.n k _ _ (omega (arith, c.loop-n-test.false, c.count-n-end.ensures.count, count)) (c.loop-n.invariant k)

use Rattle.std.proofs.Common.{rules, ap, sym, ◌∙◌}
use Rattle.pg_expr.specs.work.AtomSets.{contains}
use Rattle.pg_expr.specs.work.View.{cond}
use Rattle.scan_probes.proofs.ChosenLemmas.{taken, left_out}
use Rattle.scan_probes.proofs.conditions.chosen.Goals as goal
use Rattle.scan_probes.proofs.conditions.chosen.Goals.{then-has+in_ok-push, else-has}

pub loop-n-preserved : goal.loop-n-preserved
loop-n-preserved c =
    elim c.if-has.branch [
      | then-has+in_ok-push b ↦
          taken (λ e. cond e.now) c.args.classes.now.clauses (contains c.args.set.now) c.loop-n.n _ c.loop-n.chosen.items (search rules) c.loop-n.invariant b.clause.result _ (sym c.has.ensures ∙ b.if-has.true) b.clause.ensures
          (ap (λ v. v.items) b.chosen-is ∙ b.in_ok-push.ensures.items)
      | else-has b ↦
          left_out (λ e. cond e.now) c.args.classes.now.clauses (contains c.args.set.now) c.loop-n.n _ c.loop-n.chosen.items (search rules) c.loop-n.invariant _ (sym c.has.ensures ∙ b.if-has.false) (ap (λ v. v.items) b.chosen-is)
    ]

use Rattle.std.proofs.Common.{◌≡◌, ◌≤◌, ◌∙◌, List, ap, sym, Bor}
use Rattle.pg_base.specs.declared.limits.TheConstants.{MOST_ATOMS}
use Rattle.pg_expr.specs.Cond.{Cond}
use Rattle.pg_expr.specs.Columns.{atom_count}
use Rattle.pg_expr.specs.work.View as view
use Rattle.pg_expr.specs.declared.expr.Expr.{Expr}
use Rattle.eq_classes.specs.Clauses.{ClassTable}
use Rattle.eq_classes.specs.Listing.{clause_at}
use Rattle.path_cost.specs.work.Columns.{IsOver}
use Rattle.plan_tree.specs.Bitmaps.{condition_at}
use Rattle.plan_tree.proofs.ElementLemmas.{arms-are, arms-over-of, arms-few-of, clause-holds, condition-here}
use Rattle.plan_tree.proofs.elements.or_arms.Goals as goal

pub returns : goal.returns
returns c =
    let f = λ (a : Bor (List Expr)). a.now in
    let ks = c.args.q.now.classes.clauses in
    let k = condition_at c.args.q.now c.args.n in
    let same : k ≡ view.cond c.clause.result.now = condition-here ks c.args.n c.requires.clause ∙ ap (λ (t : ClassTable). (clause_at t.clauses c.args.n).cond) (sym c.classes_of.ensures) ∙ sym c.clause.ensures in
    let are = arms-are f c.or_parts.result (view.cond c.clause.result.now) k same c.or_parts.ensures in
    record {
      arms = are;
      over = λ contents h. arms-over-of f c.or_parts.result contents c.args.q.now.range k (clause-holds (IsOver contents c.args.q.now.range) ks c.args.n c.requires.clause h.clauses) are;
      few = λ contents h. arms-few-of f c.or_parts.result MOST_ATOMS k (clause-holds (λ (e : Cond). atom_count e ≤ MOST_ATOMS) ks c.args.n c.requires.clause h.atoms) are;
    }

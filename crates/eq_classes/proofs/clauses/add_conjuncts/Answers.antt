use Rattle.std.proofs.Common.{◌++◌, ◌∷◌, ◌+◌, ◌≤◌, ◌^◌, List, map, length, subst, arith, IsTrue, ap}
use Rattle.std.proofs.lemmas.Bool.{and_parts}
use Rattle.pg_expr.specs.declared.expr.Expr.{Expr}
use Rattle.pg_expr.specs.Columns.{each_column, each_column_of}
use Rattle.pg_expr.specs.Typed.{AreTyped}
use Rattle.pg_expr.specs.work.View.{cond, conds}
use Rattle.eq_classes.specs.Clauses.{conjunct_clauses}
use Rattle.eq_classes.specs.work.Listing.{clauses_of}
use Rattle.eq_classes.proofs.SearchLemmas.{conjunct_rows}
use Rattle.eq_classes.proofs.clauses.add_conjuncts.Goals as goal

pub loop-k-preserved : goal.loop-k-preserved
loop-k-preserved g c =
    let t = g.B.Binding.type_of c.args.typed.now in
    let binds = g.B.Binding.binds c.args.typed.now in
    let split = c.in-Some.ensures.steps.0 in
    let rest = c.next.new.self.rest.items in
    let cs = c.args.classes.now in
    let inv = c.loop-k.invariant in
    let few : c.loop-k.n + length (c.in-Some.k ∷ rest) ≤ 2 ^ 15 = subst (λ (l : List Expr). c.loop-k.n + length l ≤ 2 ^ 15) split inv.1 in
    let bound : IsTrue (each_column_of binds (conds (c.in-Some.k ∷ rest))) = subst (λ (l : List Expr). IsTrue (each_column_of binds (conds l))) split inv.2 in
    let typed : AreTyped t (conds (c.in-Some.k ∷ rest)) = subst (λ (l : List Expr). AreTyped t (conds l)) split inv.3 in (
      conjunct_rows t c.loop-k.n (cond c.in-Some.k) (map cond rest) (map cond c.loop-k.k-iterator.rest.items) (clauses_of cs c.loop-k.out.items) (clauses_of cs c.add_conjunct.new.out.items)
          (clauses_of cs c.args.out.now.items ++ conjunct_clauses t 1 (map cond c.args.conjuncts.items)) (ap (map cond) split) (c.in_ok-add_conjunct.ensures {u = tt}) inv.0,
      omega (arith, few),
      (and_parts (each_column binds (cond c.in-Some.k)) (each_column_of binds (conds rest)) bound).1,
      typed.1,
    )

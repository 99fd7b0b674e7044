-- The parts of an AND.
use Rattle.std.proofs.Common.{rules, ◌≡◌, All, List, [], ◌∷◌, IsTrue}
use Rattle.std.specs.List.{AllByRecursion}
use Rattle.std.proofs.lemmas.Bool.{and_parts}
use Rattle.std.proofs.lemmas.List.Elements.{All-from_recursion}
use Rattle.pg_expr.specs.declared.expr.Exprs.{Exprs}
use Rattle.pg_expr.specs.declared.expr.Expr.{Expr}
use Rattle.pg_expr.specs.declared.expr.Expr.TheViews.{And, the_lemmas}
use Rattle.pg_expr.specs.declared.expr.Expr.TheVariants.{rolls-And}
use Rattle.pg_expr.specs.declared.expr.Expr.TheFolds.{fold-roll-Expr, fold_out-Expr, fold-roll-Exprs, fold_out-Exprs}
use Rattle.pg_expr.specs.Cond.{all_of}
use Rattle.pg_expr.specs.Columns.{each_column, each_column_of}
use Rattle.pg_expr.specs.Typed.{AreTyped}
use Rattle.pg_expr.specs.work.View as view
use Rattle.catalog.specs.Contents.{Contents}
use Rattle.catalog.specs.Range.{Range}
use Rattle.catalog.specs.Range.{type_in}
use Rattle.path_cost.specs.work.Columns.{IsOver, is_column_in}

-- what an AND of expressions stands for
pub and-is : (parts : Exprs) → view.cond (And parts) ≡ all_of (view.conds parts.items.items)
and-is parts = search (rules, the_lemmas, rolls-And, fold-roll-Expr, fold_out-Expr, fold-roll-Exprs, fold_out-Exprs)

pub over-each : (c : Contents) (range : Range) (es : List Expr) → IsTrue (each_column_of (is_column_in c range) (view.conds es)) → AreTyped (type_in c range) (view.conds es) → AllByRecursion (λ (e : Expr). IsOver c range (view.cond e)) es
over-each c range [] h t = tt
over-each c range (e ∷ es) h t =
    let parts = and_parts (each_column (is_column_in c range) (view.cond e)) (each_column_of (is_column_in c range) (view.conds es)) h in
    (record { columns = parts.0; typed = t.0 }, over-each c range es parts.1 t.1)

-- the parts of an AND are over what it is over
pub parts_over : (c : Contents) (range : Range) (es : List Expr) → IsOver c range (all_of (view.conds es)) → All (λ (e : Expr). IsOver c range (view.cond e)) es
parts_over c range es h = All-from_recursion (λ (e : Expr). IsOver c range (view.cond e)) es (over-each c range es h.columns h.typed)

pub one_over : (c : Contents) (range : Range) (e : Expr) → IsOver c range (view.cond e) → All (λ (x : Expr). IsOver c range (view.cond x)) (e ∷ [])
one_over c range e h = All-from_recursion (λ (x : Expr). IsOver c range (view.cond x)) (e ∷ []) (h, tt)

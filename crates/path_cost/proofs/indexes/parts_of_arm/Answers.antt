use Rattle.std.proofs.Common.{◌∙◌, false, All, map, sym, ap, subst}
use Rattle.pg_expr.specs.declared.expr.Expr.{Expr}
use Rattle.pg_expr.specs.Pushed.{parts_of}
use Rattle.pg_expr.specs.work.View as view
use Rattle.eq_classes.specs.Classes.{listed}
use Rattle.path_cost.specs.work.Columns.{IsOver}
use Rattle.path_cost.proofs.PartLemmas.{and-is, parts_over}
use Rattle.eq_classes.proofs.ConditionLemmas.{listed_conds}
use Rattle.path_cost.proofs.indexes.parts_of_arm.Goals as goal

pub returns-in-And-clause-parts : goal.returns-in-And-clause-parts
returns-in-And-clause-parts c =
    ap (map view.cond) c.items.ensures
    ∙ sym (ap (λ e. listed (parts_of false (view.cond e))) c.in-And.is ∙ ap (λ e. listed (parts_of false e)) (and-is c.in-And.parts) ∙ listed_conds (map view.cond c.in-And.parts.items.items))

pub returns-in-And-clause-over : goal.returns-in-And-clause-over
returns-in-And-clause-over c k range h =
    subst (λ es. All (λ (e : Expr). IsOver k range (view.cond e)) es) (sym c.items.ensures)
    (parts_over k range c.in-And.parts.items.items (subst (IsOver k range) (ap view.cond c.in-And.is ∙ and-is c.in-And.parts) h))

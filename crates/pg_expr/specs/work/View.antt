-- The tree that an `Expr` stands for. Own.
use Rattle.std.specs.Prelude.{List, map}
use Rattle.pg_expr.specs.Cond.{Cond, compare, is_null, is_not_null, bool_col, const, all_of, any_of, negation, Conds, conds_of}
use Rattle.pg_expr.specs.declared.expr.Expr.{Expr}
use Rattle.pg_expr.specs.declared.expr.Expr.TheOpen.{Expr-F, Compare, IsNull, IsNotNull, BoolCol, Const, And, Or, Not}
use Rattle.pg_expr.specs.declared.expr.Expr.TheFolds.{fold-Expr}

-- one level, with each part already seen as its tree
abbrev pub cond_step : Expr-F Cond Conds → Cond
cond_step (Compare op l r) = compare op l r
cond_step (IsNull c) = is_null c
cond_step (IsNotNull c) = is_not_null c
cond_step (BoolCol c) = bool_col c
cond_step (Const t) = const t
cond_step (And parts) = all_of parts
cond_step (Or parts) = any_of parts
cond_step (Not inner) = negation inner.value

-- the tree of an expression
abbrev pub cond : Expr → Cond
cond = fold-Expr Cond Conds cond_step (λ parts. conds_of parts.items.items)

-- the trees of a list of expressions
abbrev pub conds : List Expr → Conds
conds es = conds_of (map cond es)

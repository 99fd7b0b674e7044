-- Working words beside those of `Selectivity`.
use Rattle.std.specs.Prelude.{ℕ, cond, List, map}
use Rattle.pg_expr.specs.work.View as view
use Rattle.catalog.specs.Contents.{Contents}
use Rattle.catalog.specs.Range.{Range}
use Rattle.path_cost.specs.declared.shares.TheConstants.{ALL_ROWS}
use Rattle.pg_expr.specs.declared.expr.Expr.{Expr}
use Rattle.path_cost.specs.Selectivity.{of_all, of_any}

module _ (c : Contents) (range : Range) where
  -- the share at which all conditions are True
  abbrev pub all_share : List Expr → ℕ
  all_share es = of_all c range (map view.cond es) 0 ALL_ROWS (view.conds es)

  -- the share at which some condition is True
  abbrev pub any_share : List Expr → ℕ
  any_share es = of_any c range 0 (view.conds es)

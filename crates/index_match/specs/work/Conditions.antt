-- Working words beside those of `Conditions`.
use Rattle.std.specs.Prelude.{ℕ, Bool, List}
use Rattle.std.specs.List.{list_all}
use Rattle.pg_base.specs.declared.numbers.IndexNo.{IndexNo}
use Rattle.pg_expr.specs.work.View as view
use Rattle.catalog.specs.Contents.{Contents}
use Rattle.catalog.specs.Indexes.{Index}
use Rattle.eq_classes.specs.Clauses.{ClassTable}
use Rattle.index_match.specs.Numbered.{has_number}
use Rattle.pg_expr.specs.declared.expr.Expr.{Expr}
use Rattle.pg_base.specs.Sets.{has}
use Rattle.pg_base.specs.declared.numbers.RelNo.{RelNo}
use Rattle.pg_base.specs.declared.rel_set.RelSet.{RelSet}
use Rattle.index_match.specs.Conditions.{is_condition, index_conditions}

-- each of some expressions is on some key column of the index
abbrev pub are_conditions : Index → ℕ → List Expr → Bool
are_conditions d r es = list_all (λ e. is_condition d r (view.cond e)) es

-- a number is that of a condition of an index
abbrev pub is_condition_of : Contents → ClassTable → IndexNo → RelNo → RelSet → ℕ → Bool
is_condition_of c t i r p n = has_number (index_conditions c t i r.0 (has p.0)) n

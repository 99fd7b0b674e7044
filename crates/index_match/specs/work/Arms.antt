-- Working words beside those of `Arms`.
use Rattle.std.specs.Prelude.{ℕ, Bool, ◌&&◌, List, length}
use Rattle.pg_expr.specs.work.View as view
use Rattle.index_match.specs.Numbered.{has_number}
use Rattle.index_match.specs.work.Conditions.{are_conditions}
use Rattle.pg_base.specs.declared.numbers.IndexNo.{IndexNo}
use Rattle.pg_base.specs.declared.numbers.RelNo.{RelNo}
use Rattle.pg_expr.specs.declared.expr.Expr.{Expr}
use Rattle.catalog.specs.Contents.{Contents, index_at}
use Rattle.catalog.specs.work.Entries.{index_of}
use Rattle.catalog.specs.declared.index_def.IndexDef.{IndexDef}
use Rattle.index_match.specs.Arms.{takes_parts, arm_bounds}

-- an index wholly matches an arm of these parts
abbrev pub parts_matched : IndexDef → ℕ → List Expr → Bool
parts_matched d r es = takes_parts d.method (length es) && are_conditions (index_of d) r es

-- a number is that of a part of an arm that is a bound
abbrev pub bounds_arm : Contents → IndexNo → RelNo → Expr → ℕ → Bool
bounds_arm c i r arm n = has_number (arm_bounds (index_at c i) r.0 (view.cond arm)) n

-- Costs of scans as they are printed: cut to at most 10^18. Own.
use Rattle.std.specs.Prelude.{ℕ, ◌-◌, ◌^◌, min, false, Bool, List}
use Rattle.pg_base.specs.Sets.{has}
use Rattle.pg_base.specs.declared.numbers.IndexNo.{IndexNo}
use Rattle.pg_base.specs.declared.numbers.RelNo.{RelNo}
use Rattle.pg_base.specs.declared.rel_set.RelSet.{RelSet}
use Rattle.pg_expr.specs.work.AtomSets.{contains}
use Rattle.pg_expr.specs.declared.expr.Expr.{Expr}
use Rattle.pg_expr.specs.Pushed.{parts_of}
use Rattle.pg_expr.specs.work.View as view
use Rattle.catalog.specs.Contents.{Contents}
use Rattle.catalog.specs.Range.{Range}
use Rattle.eq_classes.specs.Classes.{listed}
use Rattle.eq_classes.specs.Clauses.{ClassTable}
use Rattle.cost_rules.specs.declared.pair.Pair.{Pair}
use Rattle.cost_rules.specs.work.Costs.{capped, capped_pair}
use Rattle.path_cost.specs.Costs.{arm_part, bitmap_cost, index_cost, index_part, operators, part_within}
use Rattle.path_cost.specs.Estimates.{conditions_from}
use Rattle.path_cost.specs.work.Estimates.{either_but}

-- a number as 64 bits hold it: the greatest of them for a greater one
abbrev pub saturated : ℕ → ℕ
saturated n = min n (2 ^ 64 - 1)

-- the operators of the clauses of two sets that are not in a third
abbrev pub operators_but : ClassTable → List ℕ → List ℕ → List ℕ → ℕ
operators_but t a b but = operators (conditions_from 0 (either_but a b but) t.clauses)

-- an index's own part in one of so many runs, where so many rows meet its bounds, and so many conditions are made on each
-- entry
abbrev pub own_part_cut : Contents → ℕ → IndexNo → ℕ → ℕ → ℕ
own_part_cut c runs i rows n = capped (part_within c runs i rows n)

-- an index's own part where the rows of a parameterisation are given, by its bounds and its conditions
abbrev pub part_cut : Contents → Range → ClassTable → IndexNo → RelNo → RelSet → List ℕ → List ℕ → ℕ
part_cut c range t i r p bounds conditions = capped (index_part c range t i r.0 (has p.0) (contains bounds) (contains conditions))

-- the part of an index that serves an arm of an OR
abbrev pub arm_cut : Contents → Range → ClassTable → IndexNo → RelNo → RelSet → Expr → List ℕ → ℕ
arm_cut c range t i r p arm bounds = capped (arm_part c range t i r.0 (has p.0) (listed (parts_of false (view.cond arm))) (contains bounds))

-- an index scan, by the bounds and the conditions of its index
abbrev pub scan_cut : Contents → Range → ClassTable → IndexNo → RelNo → RelSet → List ℕ → List ℕ → Bool → Pair
scan_cut c range t i r p bounds conditions only =
    capped_pair (index_cost c range t i r.0 (has p.0) (contains bounds) (contains conditions) only)

-- a bitmap scan over the parts of its indexes, by the clauses that it uses
abbrev pub bitmap_cut : Contents → Range → ClassTable → RelNo → RelSet → List ℕ → ℕ → Pair
bitmap_cut c range t r p used parts = capped_pair (bitmap_cost c range t r.0 (has p.0) (contains used) parts)

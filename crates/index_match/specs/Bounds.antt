-- The bounds of an index: the conditions that bound one contiguous part of it. Source: PostgreSQL manual, Multicolumn Indexes; one fixing condition a column is own.
use Rattle.std.specs.Prelude.{ℕ, Bool, true, false, List, [], ◌∷◌, filter, find, Some, None}
use Rattle.pg_base.specs.declared.numbers.IndexNo.{IndexNo}
use Rattle.catalog.specs.pg_value_operators_Op_TheVariants.{Eq, AbsEq}
use Rattle.catalog.specs.opfamily_classes_IndexKey.{IndexKey}
use Rattle.catalog.specs.opfamily_classes_Method.{Method}
use Rattle.pg_expr.specs.Cond.{Cond, compare, is_null}
use Rattle.catalog.specs.Contents.{Contents, index_at}
use Rattle.catalog.specs.Indexes.{Index}
use Rattle.eq_classes.specs.Clauses.{Set, ClassTable}
use Rattle.index_match.specs.Numbered.{Numbered, is_one_of_chosen}
use Rattle.index_match.specs.Conditions.{has_key_form, index_conditions}

-- a condition on a key column that leaves it one value: IS NULL, or the equality of the key's family
abbrev pub is_fixing : Cond → Bool
is_fixing (is_null x) = true
is_fixing (compare Eq a b) = true
is_fixing (compare AbsEq a b) = true
is_fixing _ = false

-- the conditions on a key column
abbrev pub on_key : Method → ℕ → IndexKey → List Numbered → List Numbered
on_key m r k cs = filter (λ (c : Numbered). has_key_form m r k c.cond) cs

-- the bounds, from the left over the key columns: the first condition that fixes a column, and the next column follows; else
-- all conditions of the column, and none follows
abbrev pub bounding : Method → ℕ → List IndexKey → List Numbered → List Numbered
bounding m r [] cs = []
bounding m r (k ∷ ks) cs =
    elim (find (λ (c : Numbered). is_fixing c.cond) (on_key m r k cs)) [
      | None ↦ on_key m r k cs
      | Some c ↦ c ∷ bounding m r ks cs
    ]

-- the conditions of a list that are bounds, in the list's order
abbrev pub bounds_among : Index → ℕ → List Numbered → List Numbered
bounds_among d r cs = filter (is_one_of_chosen (bounding d.method r d.keys cs)) cs

-- the bounds of an index, and its other conditions, which are tests of its entries
abbrev pub index_bounds : Contents → ClassTable → IndexNo → ℕ → Set → List Numbered
index_bounds c t i r p = bounds_among (index_at c i) r (index_conditions c t i r p)

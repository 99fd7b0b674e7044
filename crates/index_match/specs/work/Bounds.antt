-- Working words beside those of `Bounds`.
use Rattle.std.specs.Prelude.{ℕ, Bool, List}
use Rattle.pg_base.specs.declared.numbers.IndexNo.{IndexNo}
use Rattle.catalog.specs.Contents.{Contents}
use Rattle.eq_classes.specs.Clauses.{Set, ClassTable}
use Rattle.index_match.specs.Numbered.{Numbered, has_number}
use Rattle.index_match.specs.work.Numbered.{others}
use Rattle.index_match.specs.Conditions.{index_conditions}
use Rattle.pg_base.specs.Sets.{has}
use Rattle.pg_base.specs.declared.numbers.RelNo.{RelNo}
use Rattle.pg_base.specs.declared.rel_set.RelSet.{RelSet}
use Rattle.index_match.specs.Bounds.{index_bounds}

-- the conditions of an index that bound nothing: each entry within the bounds is tested by them
abbrev pub index_tests : Contents → ClassTable → IndexNo → ℕ → Set → List Numbered
index_tests c t i r p = others (index_bounds c t i r p) (index_conditions c t i r p)

-- a number is that of a bound of an index
abbrev pub is_bound_of : Contents → ClassTable → IndexNo → RelNo → RelSet → ℕ → Bool
is_bound_of c t i r p n = has_number (index_bounds c t i r.0 (has p.0)) n

-- a number is that of a test of an index
abbrev pub is_test_of : Contents → ClassTable → IndexNo → RelNo → RelSet → ℕ → Bool
is_test_of c t i r p n = has_number (index_tests c t i r.0 (has p.0)) n

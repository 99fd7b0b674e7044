-- The direction of a column of an order, and the end at which its NULLs stand (PostgreSQL manual, chapter Queries, Sorting Rows).
use Rattle.std.specs.Prelude.{Bool, true, false}
use Rattle.sql_grammar.specs.Syntax.{Direction, no_direction, ascending, descending, NullsEnd, no_nulls_end, nulls_first, nulls_last}

-- whether greater values stand first
abbrev pub is_descending : Direction → Bool
is_descending no_direction = false
is_descending (ascending k) = false
is_descending (descending k) = true

-- whether NULL stands before all values: where nothing is said it is the greatest one
abbrev pub has_nulls_first : Bool → NullsEnd → Bool
has_nulls_first greatest_first no_nulls_end = greatest_first
has_nulls_first greatest_first (nulls_first n f) = true
has_nulls_first greatest_first (nulls_last n l) = false

-- Working words beside those of `Analysis`.
use Rattle.std.specs.Prelude.{ℕ, Bool, nat_le, List, map}
use Rattle.pg_value.specs.declared.value.Value.{Value}
use Rattle.heap.specs.Stored.{Values}
use Rattle.std.specs.Borrow.{Bor}
use Rattle.analyze.specs.Analysis.{Counted, values_of}

-- the values that are lent
abbrev pub lent_values : List (Bor Value) → List Value
lent_values vs = map (λ v. v.now) vs

-- the values of a column in rows that are lent
abbrev pub lent_column : ℕ → List (Bor Values) → List Value
lent_column c rows = values_of c (map (λ row. row.now) rows)

-- what is counted stands there twice or more often
abbrev pub is_repeated : Counted → Bool
is_repeated p = nat_le 2 p.1

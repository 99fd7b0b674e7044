-- What a hash index stands for: values with the rows that have them (PostgreSQL manual, chapter Indexes, Hash; rows rising is own).
use Rattle.std.specs.Prelude.{◌≡◌, ℕ, true, List, ◌++◌, All, map, filter, is_some, nat_lt}
use Rattle.std.specs.Ordering.{on, then_cmp, nat_cmp}
use Rattle.std.specs.declared.cmp.Ordering.{Ordering}
use Rattle.pg_value.specs.declared.operators.Op.TheVariants.{Eq}
use Rattle.pg_value.specs.declared.value.Value.{Value}
use Rattle.pg_value.specs.declared.value.Value.TheVariants.{Null}
use Rattle.pg_value.specs.work.Order.{IsOfFamily}
use Rattle.pg_value.specs.Truths.{is_true, truth_of_op}
use Rattle.pg_value.specs.Sorting.{IsInOrder, in_order}
use Rattle.opfamily.specs.declared.classes.IndexKey.{IndexKey}
use Rattle.opfamily.specs.declared.classes.Method.TheVariants.{Hash}
use Rattle.opfamily.specs.Answers.{number_in}
use Rattle.opfamily.specs.KeyOrder.{key_family, key_order}

-- a row with its value
pub record Held : Type 0 where
  pub value : Value
  pub row : ℕ

-- the order of rows: by the value, then by the row number; the order of the values serves to find them
abbrev pub held_order : IndexKey → Held → Held → Ordering
held_order k = then_cmp (on (λ (h : Held). h.value) (key_order k)) (on (λ (h : Held). h.row) nat_cmp)

-- a value is not NULL
abbrev pub IsKnown : Value → Type 0
IsKnown Null = ⊥
IsKnown v = Unit {0}

-- the rows of which `=` with a value is True, in the order in which they stand; none for NULL (SQL)
abbrev pub rows_equal : Value → List Held → List ℕ
rows_equal v hs = map (λ (h : Held). h.row) (filter (λ (h : Held). is_true (truth_of_op Eq h.value v)) hs)

-- an index of one key: the key, and the rows with their values
pub record HashTable : Type 0 where
  pub key : IndexKey
  pub held : List Held

-- the key's family has `=` for hash, each value is NULL or of the kind that the family orders, and the rows stand in order
pub record IsLawfulHash (t : HashTable) : Type 0 where
  pub hashes : is_some (number_in (key_family t.key) Hash Eq) ≡ true
  pub fits : All (λ (h : Held). IsOfFamily (key_family t.key) h.value) t.held
  pub order : IsInOrder (held_order t.key) t.held

-- an index with more rows
abbrev pub with_held : HashTable → List Held → HashTable
with_held t added = record { key = t.key; held = in_order (held_order t.key) (t.held ++ added) }

-- an index without the rows from a number on
abbrev pub held_below : ℕ → HashTable → HashTable
held_below rows t = record { key = t.key; held = filter (λ h. nat_lt h.row rows) t.held }

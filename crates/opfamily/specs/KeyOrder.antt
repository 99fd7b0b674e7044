-- The order of lists of index keys, and the entries of an index (PostgreSQL manual, chapter Indexes, Indexes and ORDER BY; equal keys in row order is own).
use Rattle.std.specs.Prelude.{ℕ, List, [], ◌∷◌, Option, Some, None}
use Rattle.std.specs.Ordering.{on, then_cmp, nat_cmp}
use Rattle.std.specs.declared.cmp.Ordering.{Ordering}
use Rattle.std.specs.declared.cmp.Ordering.TheVariants.{Equal}
use Rattle.pg_value.specs.declared.operators.Family.{Family}
use Rattle.pg_value.specs.declared.operators.Family.TheVariants.{Integer}
use Rattle.pg_value.specs.declared.value.Value.{Value}
use Rattle.pg_value.specs.declared.value.Value.TheVariants.{Null}
use Rattle.pg_value.specs.ColumnOrder.{column_order}
use Rattle.opfamily.specs.declared.classes.IndexKey.{IndexKey}
use Rattle.opfamily.specs.Answers.{family_of}

-- the family of a key: that of its class, of which each has one
abbrev pub family_or_integer : Option Family → Family
family_or_integer None = Integer
family_or_integer (Some f) = f

unfoldable pub key_family : IndexKey → Family
key_family k = family_or_integer (family_of k.class)

-- two values of a key's column
abbrev pub key_order : IndexKey → Value → Value → Ordering
key_order k = column_order (key_family k) k.descending k.nulls_first

-- the first value of a list, and those behind it; NULL past the end
abbrev pub first_value : List Value → Value
first_value [] = Null
first_value (v ∷ vs) = v

-- the values behind the first; none of an empty list
abbrev pub later_values : List Value → List Value
later_values [] = []
later_values (v ∷ vs) = vs

-- two lists of key values, by the first key that tells them apart
abbrev pub key_values_order : List IndexKey → List Value → List Value → Ordering
key_values_order [] = λ a b. Equal
key_values_order (k ∷ ks) = then_cmp (on first_value (key_order k)) (on later_values (key_values_order ks))

-- an entry: a row's number, its key values and the values that it includes
pub record IndexEntry : Type 0 where
  pub row : ℕ
  pub keys : List Value
  pub include : List Value

-- the order of entries: by the keys, then by the row number
abbrev pub entry_order : List IndexKey → IndexEntry → IndexEntry → Ordering
entry_order ks = then_cmp (on (λ (e : IndexEntry). e.keys) (key_values_order ks)) (on (λ (e : IndexEntry). e.row) nat_cmp)

-- The values of columns where a row of one relation, or an entry of an index on it, stands beside rows of others. Own.
use Rattle.std.specs.Prelude.{◌≡◌, ◌+◌, ◌<◌, ℕ, Bool, true, false, cond, ◌&&◌, ◌||◌, nat_eq, nat_lt, List, [], ◌∷◌, length, map, slice_index_or, Option, Some, None}
use Rattle.std.specs.List.{list_any, list_all, range_with_len}
use Rattle.pg_base.specs.declared.numbers.ColNo.{ColNo}
use Rattle.pg_value.specs.declared.value.Value.{Value}
use Rattle.pg_value.specs.declared.value.Value.TheVariants.{Null}
use Rattle.pg_value.specs.Truths.{is_true}
use Rattle.opfamily.specs.KeyOrder.{IndexEntry}
use Rattle.opfamily.specs.declared.classes.IndexKey.{IndexKey}
use Rattle.pg_expr.specs.declared.operand.ColRef.{ColRef}
use Rattle.pg_expr.specs.Cond.{Cond}
use Rattle.pg_expr.specs.Truths.{truth_at}
use Rattle.catalog.specs.Indexes.{Index}
use Rattle.eq_classes.specs.Clauses.{Set}
use Rattle.heap.specs.Stored.{Values}
use Rattle.sql_query.specs.Queries.{Query, width}
use Rattle.sql_query.specs.Worlds.{World}
use Rattle.sql_query.specs.Tuples.{Tuple, row_at}
use Rattle.pg_base.specs.Sets.{has}
use Rattle.pg_base.specs.declared.numbers.Tid.{Tid}
use Rattle.pg_base.specs.declared.rel_set.RelSet.{RelSet}
use Rattle.heap.specs.work.Tuples.{padded}

-- rows given, each in the place of its relation; a relation without one has none
abbrev pub Given : Type 0
Given = List (Option Values)

-- the rows that a tuple has of the relations of a set
abbrev pub tuple_given : World → Query → Set → Tuple → Given
tuple_given w q set o = map (λ k. cond (set k) (Some (row_at w q o (record { 0 = k }))) None) (range_with_len 0 (width q))

-- the rows that the numbers of a tuple of a set of relations give
abbrev pub given_rows : World → Query → RelSet → List Tid → Given
given_rows w q set rows = tuple_given w q (has set.0) (padded (width q) (has set.0) rows)

-- the value of a column in a row; NULL where there is none
abbrev pub value_in : Values → ColNo → Value
value_in row c = slice_index_or row c.0 Null

-- the value of a column in a row that may not be there; NULL where it is not
abbrev pub row_value : Option Values → ColNo → Value
row_value None c = Null
row_value (Some row) c = value_in row c

-- the row is there, and has the column
abbrev pub has_value : Option Values → ColNo → Bool
has_value None c = false
has_value (Some row) c = nat_lt c.0 (length row)

-- the value of a column among the values of some columns, else another
abbrev pub value_among : List ColNo → List Value → Value → ColNo → Value
value_among [] vs other c = other
value_among (n ∷ ns) [] other c = other
value_among (n ∷ ns) (v ∷ vs) other c = cond (nat_eq c.0 n.0) v (value_among ns vs other c)

-- the value of a column in an entry of an index: a key value or one that the index includes
abbrev pub key_columns : Index → List ColNo
key_columns d = map (λ (k : IndexKey). k.col) d.keys

-- the value of a column in an entry: a key value before an included one; NULL where the index does not hold the column
abbrev pub value_in_entry : Index → IndexEntry → ColNo → Value
value_in_entry d e c = value_among (key_columns d) e.keys (value_among d.include e.include Null c) c

-- an index holds a column, so that an entry has its value (PostgreSQL manual, Index-Only Scans and Covering Indexes)
abbrev pub is_held : Index → ColNo → Bool
is_held d c = list_any (λ (n : ColNo). nat_eq c.0 n.0) (key_columns d) || list_any (λ (n : ColNo). nat_eq c.0 n.0) d.include

-- the column is a key column or one included, of which there are fewer than 256, and the entry has a value for each of these
pub record HasEntryValue (d : Index) (e : IndexEntry) (c : ColNo) : Type 0 where
  pub held : is_held d c ≡ true
  pub keys : length e.keys ≡ length d.keys
  pub include : length e.include ≡ length d.include
  pub few : length d.keys + length d.include < 256

-- the test of the same: the value of the column can be read from the entry
abbrev pub has_entry_value : Index → IndexEntry → ColNo → Bool
has_entry_value d e c =
    is_held d c && (nat_eq (length e.keys) (length d.keys) && (nat_eq (length e.include) (length d.include) && nat_lt (length d.keys + length d.include) 256))

-- a column of the relation has the values of its own, any other column those of the rows given
abbrev pub value_beside : ℕ → (ColNo → Value) → Given → ColRef → Value
value_beside r own given x = cond (nat_eq x.rel.0 r) (own x.col) (row_value (slice_index_or given x.rel.0 None) x.col)

-- a column has a value there: one of the relation where its own has, any other where the rows given have
abbrev pub is_beside : ℕ → (ColNo → Bool) → Given → ColRef → Bool
is_beside r has given x = cond (nat_eq x.rel.0 r) (has x.col) (has_value (slice_index_or given x.rel.0 None) x.col)

-- each condition of a list is True; only True counts
abbrev pub are_true : (ColRef → Value) → List Cond → Bool
are_true values es = list_all (λ e. is_true (truth_at values e)) es

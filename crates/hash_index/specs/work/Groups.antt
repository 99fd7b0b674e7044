-- Values with their rows, and what they hold in all. Own.
use Rattle.std.specs.Prelude.{◌≡◌, ℕ, List, [], ◌∷◌, ◌++◌, map, filter, flat_map, nat_lt, slice_index_or, slice_set}
use Rattle.std.specs.List.{insert, remove}
use Rattle.std.specs.Ordering.{on, nat_cmp}
use Rattle.pg_base.specs.declared.numbers.Tid.{Tid}
use Rattle.pg_value.specs.declared.value.Value.{Value}
use Rattle.pg_value.specs.declared.value.Value.TheVariants.{Null}
use Rattle.pg_value.specs.Sorting.{IsInOrder, in_order}
use Rattle.opfamily.specs.declared.classes.IndexKey.{IndexKey}
use Rattle.hash_index.specs.work.Held.{Held, held_order}

-- a value, and the numbers of the rows that have it
pub record RowsOf : Type 0 where
  pub value : Value
  pub tids : List Tid

-- row numbers, from 0, in rising order
abbrev pub AreRising : List Tid → Type 0
AreRising ts = IsInOrder (on (λ (t : Tid). t.0) nat_cmp) ts

-- a value with one more row, at a place
abbrev pub with_tid : ℕ → Tid → RowsOf → RowsOf
with_tid place t g = record { value = g.value; tids = insert g.tids place t }

-- a value without the row at a place
abbrev pub without_tid : ℕ → RowsOf → RowsOf
without_tid place g = record { value = g.value; tids = remove g.tids place }

-- a value with its rows below a number
abbrev pub below : ℕ → RowsOf → RowsOf
below rows g = record { value = g.value; tids = filter (λ (t : Tid). nat_lt t.0 rows) g.tids }

-- NULL without rows, as a bucket's slot has it
abbrev pub blank : RowsOf
blank = record { value = Null; tids = [] }

-- the value at a slot with its rows
abbrev pub group_at : List RowsOf → ℕ → RowsOf
group_at gs slot = slice_index_or gs slot blank

-- the value at a slot
abbrev pub value_at : List RowsOf → ℕ → Value
value_at gs slot = (group_at gs slot).value

-- the rows of a value, each with it
abbrev pub held_of : RowsOf → List Held
held_of g = map (λ (t : Tid). record { value = g.value; row = t.0 }) g.tids

-- the rows of all values, by their slots
abbrev pub held_by : List RowsOf → List Held
held_by gs = flat_map held_of gs

-- the rows of all values, in the order of the values
abbrev pub held_in : IndexKey → List RowsOf → List Held
held_in k gs = in_order (held_order k) (held_by gs)

-- the values once the row at a place of one of them is taken out
abbrev pub without_at : ℕ → ℕ → List RowsOf → List RowsOf
without_at slot place gs = slice_set gs slot (without_tid place (group_at gs slot))

-- one more row, somewhere
pub record HasPut (h : Held) (old new : List Held) : Type 0 where
  pub front : List Held
  pub back : List Held
  pub was : old ≡ front ++ back
  pub is : new ≡ front ++ h ∷ back

-- the slots of one list have the values that they have in another
abbrev pub HaveSameValues : List RowsOf → List RowsOf → Type 0
HaveSameValues new old = (s : ℕ) → value_at new s ≡ value_at old s

-- a value without rows
abbrev pub no_rows_of : Value → RowsOf
no_rows_of v = record { value = v; tids = [] }

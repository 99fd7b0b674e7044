-- Tuples, by their places in a list, with the leads of their keys, which stand in one list. Own.
use Rattle.std.specs.Prelude.{◌≡◌, ◌*◌, ◌<◌, ℕ, List, [], All, drop, length, map, slice_index_or, take}
use Rattle.std.specs.Ordering.{int_cmp, on, then_cmp}
use Rattle.std.specs.declared.cmp.Ordering.{Ordering}
use Rattle.pg_base.specs.declared.numbers.Tid.{Tid}
use Rattle.pg_value.specs.declared.value.Value.{Value}
use Rattle.sort_rows.specs.declared.columns.SortColumn.{SortColumn}
use Rattle.sort_rows.specs.declared.sort.Keyed.{Keyed}
use Rattle.sort_rows.specs.work.Columns.{columns_order, lent_key_values}
use Rattle.sort_rows.specs.work.Leads.{key_lead}
use Rattle.std.specs.Borrow.{Bor}
use Rattle.pg_value.specs.Sorting.{in_order}
use Rattle.heap.specs.work.Tuples.{TupleList}

-- the key of so many values at a place of the list of all keys
abbrev pub run_at : {A : Type 0} → List A → ℕ → ℕ → List A
run_at xs width place = take width (drop (place * width) xs)

-- the tuples themselves, of a list
abbrev pub rows_keyed : List (List Tid) → List Keyed → List (List Tid)
rows_keyed rows ks = map (λ (k : Keyed). slice_index_or rows k.place []) ks

-- tuples to be sorted by these keys
module _ (cs : List SortColumn) (keys : List Value) where
  -- the key of a tuple, from the list of all keys
  abbrev pub key_in : Keyed → List Value
  key_in k = run_at keys (length cs) k.place

  -- two tuples by their leads, and where these are equal by their whole keys (tuplesort.c, abbreviated keys)
  abbrev pub keyed_order : Keyed → Keyed → Ordering
  keyed_order = then_cmp (on (λ (k : Keyed). k.lead) int_cmp) (on key_in (columns_order cs))

  -- a tuple of so many, with the lead of its key
  pub record IsKeyed (count : ℕ) (k : Keyed) : Type 0 where
    pub within : k.place < count
    pub lead : k.lead ≡ key_lead cs (key_in k)

  -- tuples to be sorted, each with the lead of its key
  abbrev pub AreKeyed : ℕ → List Keyed → Type 0
  AreKeyed count ks = All (IsKeyed count) ks

-- tuples with keys that are lent
module _ (cs : List SortColumn) (keys : List (Bor Value)) where
  -- tuples in the order of their keys; those that tie keep their places
  abbrev pub keyed_sorted : List Keyed → List Keyed
  keyed_sorted ks = in_order (keyed_order cs (lent_key_values keys)) ks

  -- the tuples of a list, each with the lead of its key
  abbrev pub AreWithLeads : TupleList → List Keyed → Type 0
  AreWithLeads input ks = AreKeyed cs (lent_key_values keys) (length input.rows) ks

-- the tuples of a list in the order of their places
abbrev pub tuples_keyed : TupleList → List Keyed → TupleList
tuples_keyed input ks = record { set = input.set; rows = rows_keyed input.rows ks }

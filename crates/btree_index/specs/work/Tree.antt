-- What a B-tree stands for (PostgreSQL manual, chapter Indexes, B-Tree; equal keys in row order is own).
use Rattle.std.specs.Prelude.{◌≡◌, ℕ, Bool, cond, List, ◌++◌, All, filter, length, nat_lt, reverse}
use Rattle.pg_base.specs.declared.numbers.ColNo.{ColNo}
use Rattle.pg_value.specs.Sorting.{IsInOrder, in_order}
use Rattle.opfamily.specs.declared.classes.IndexKey.{IndexKey}
use Rattle.opfamily.specs.KeyOrder.{IndexEntry, entry_order}
use Rattle.opfamily.specs.work.KeyOrder.{AreKeyValues}

-- an index: its keys, the columns that it includes, and its entries in their order
pub record Tree : Type 0 where
  pub keys : List IndexKey
  pub include : List ColNo
  pub entries : List IndexEntry

-- an entry of an index with these keys and columns: a value for each key, NULL or of the kind that the key's family orders, and one for each column
pub record IsEntryOf (ks : List IndexKey) (cs : List ColNo) (e : IndexEntry) : Type 0 where
  pub keys : AreKeyValues ks e.keys
  pub include : length e.include ≡ length cs

-- the entries fit, and stand in the order of the keys, equal ones in that of their rows
pub record IsLawfulTree (t : Tree) : Type 0 where
  pub entries : All (IsEntryOf t.keys t.include) t.entries
  pub order : IsInOrder (entry_order t.keys) t.entries

-- a tree with more entries
abbrev pub with_entries : Tree → List IndexEntry → Tree
with_entries t added = record { keys = t.keys; include = t.include; entries = in_order (entry_order t.keys) (t.entries ++ added) }

-- a tree without the entries of the rows from a number on
abbrev pub of_rows_below : ℕ → Tree → Tree
of_rows_below rows t = record { keys = t.keys; include = t.include; entries = filter (λ e. nat_lt e.row rows) t.entries }

-- a list as it stands, or from its end
abbrev pub in_direction : Bool → List IndexEntry → List IndexEntry
in_direction backward es = cond backward (reverse es) es

-- entries with more of them, in the order of the keys
abbrev pub entries_with : List IndexKey → List IndexEntry → List IndexEntry → List IndexEntry
entries_with ks es added = in_order (entry_order ks) (es ++ added)

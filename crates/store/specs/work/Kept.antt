-- Working words beside those of `Kept`.
use Rattle.std.specs.Prelude.{◌≡◌, ◌⊎◌, ◌≤◌, ℕ, ◌+◌, ◌-◌, All, Ok, false, cond, nat_eq, List, [], ◌∷◌, ◌++◌, filter, length, map, slice_index_or, slice_set, take}
use Rattle.std.specs.List.{range_with_len}
use Rattle.std.specs.declared.result.Result.{Result}
use Rattle.pg_base.specs.declared.numbers.IndexNo.{IndexNo}
use Rattle.pg_base.specs.declared.numbers.TableNo.{TableNo}
use Rattle.pg_value.specs.work.Order.{IsOfFamily}
use Rattle.pg_value.specs.Sorting.{in_order}
use Rattle.pg_value.specs.declared.columns.Column.{Column}
use Rattle.opfamily.specs.KeyOrder.{IndexEntry, first_value, key_family}
use Rattle.opfamily.specs.declared.classes.IndexKey.{IndexKey}
use Rattle.opfamily.specs.declared.classes.Method.{Method}
use Rattle.opfamily.specs.declared.classes.Method.TheVariants.{Btree, Hash}
use Rattle.opfamily.specs.declared.classes.OpClass.TheVariants.{Int2Ops}
use Rattle.btree_index.specs.work.Tree.{IsEntryOf, Tree}
use Rattle.btree_index.specs.work.Tree as tree
use Rattle.hash_index.specs.work.Held.{Held, HashTable, held_order}
use Rattle.hash_index.specs.work.Held as held
use Rattle.heap.specs.Loading.{loaded, records_of}
use Rattle.heap.specs.Stored.{Stored, Values}
use Rattle.heap.specs.declared.fault.CopyFault.{CopyFault}
use Rattle.catalog.specs.Contents.{Contents, NamedIndex, index_at, indexes_of}
use Rattle.catalog.specs.Indexes.{Index}
use Rattle.sql_query.specs.Worlds.{IsWorld, nothing_stored, stored_at, world}
use Rattle.plan_tree.specs.Entries.{entries_over, entry, meets_predicate}
use Rattle.store.specs.Kept.{load_looks}

-- an index as it is built
pub data Built : Type 0 where
  sorted : Tree → Built
  hashed : HashTable → Built

-- what is stored of each table, and the indexes, each in order of making
pub record Kept : Type 0 where
  pub stored : List Stored
  pub built : List Built

-- what is kept where the catalogue has no table
abbrev pub nothing_kept : Kept
nothing_kept = record { stored = []; built = [] }

-- one more table, the last
abbrev pub with_heap : Kept → Stored → Kept
with_heap k h = record { stored = k.stored ++ h ∷ []; built = k.built }

-- what is stored of a table
abbrev pub stored_of : Kept → TableNo → Stored
stored_of k t = slice_index_or k.stored t.0 nothing_stored

-- how many rows are stored of a table
abbrev pub row_count : Kept → TableNo → ℕ
row_count k t = length (stored_of k t).rows

-- what is stored of a table of these columns without rows
abbrev pub stored_without_rows : List Column → Stored
stored_without_rows columns = record { columns = columns; rows = [] }

-- how many rows are stored of the table of an index
abbrev pub indexed_rows : Contents → Kept → IndexNo → ℕ
indexed_rows c k i = length (stored_of k (index_at c i).table).rows

-- how many indexes a table has
abbrev pub index_count : Contents → TableNo → ℕ
index_count c t = length (indexes_of c t)

-- the entries of an index for the rows from a number on, in the order of the rows
abbrev pub found : Index → List Values → ℕ → List IndexEntry
found d rows from = map (entry d rows) (filter (λ n. meets_predicate d.predicate (slice_index_or rows n [])) (range_with_len from (length rows - from)))

-- the one key of a hash index; what stands where there is none
abbrev pub first_key : List IndexKey → IndexKey
first_key [] = record { col = record { 0 = 0 }; class = Int2Ops; descending = false; nulls_first = false }
first_key (k ∷ ks) = k

-- an entry with one key, as a hash index holds it
abbrev pub held_of : IndexEntry → Held
held_of e = record { value = first_value e.keys; row = e.row }

-- entries as an index has them, each with the values of its columns
abbrev pub AreIndexEntries : Index → List IndexEntry → Type 0
AreIndexEntries d es = All (IsEntryOf d.keys d.include) es

-- rows whose values are all of the family of a hash index's one key
abbrev pub AreOfKeyFamily : Index → List Held → Type 0
AreOfKeyFamily d rs = All (λ h. IsOfFamily (key_family (first_key d.keys)) h.value) rs

-- an index with exactly its entries over the rows of its table: a B-tree has them in the order of its keys, equal ones by
-- row, a hash index by the value of its one key, equal ones by row
abbrev pub tree_of : Index → List Values → Tree
tree_of d rows = record { keys = d.keys; include = d.include; entries = entries_over d rows }

-- a hash index with exactly its entries over the rows of its table
abbrev pub hash_table : Index → List Values → HashTable
hash_table d rows = record { key = first_key d.keys; held = in_order (held_order (first_key d.keys)) (map held_of (entries_over d rows)) }

-- an index of a method with its entries over rows
abbrev pub built_by : Method → Index → List Values → Built
built_by Btree d rows = sorted (tree_of d rows)
built_by Hash d rows = hashed (hash_table d rows)

-- an index as its definition has it, with its entries over the rows of its table
abbrev pub built_of : Index → List Values → Built
built_of d rows = built_by d.method d rows

-- an index without the entries of the rows from a number on
abbrev pub below : ℕ → Built → Built
below rows (sorted t) = sorted (tree.of_rows_below rows t)
below rows (hashed t) = hashed (held.held_below rows t)

-- an index of a catalogue, over what is stored of its table
abbrev pub built_over : List Stored → NamedIndex → Built
built_over stored x = built_of x.index (slice_index_or stored x.index.table.0 nothing_stored).rows

-- a store is one of a catalogue: each table has its rows, and each index is built over those of its table
pub record IsStoreOf (c : Contents) (k : Kept) : Type 0 where
  pub world : IsWorld (world c k.stored)
  pub built : k.built ≡ map (built_over k.stored) c.indexes

-- an index of the catalogue over what is kept of its table
abbrev pub built_at : Contents → Kept → IndexNo → Built
built_at c k i = built_of (index_at c i) (stored_at (world c k.stored) (index_at c i).table).rows

-- what is stored of a table once the data of a block are loaded, or the first fault of the data
abbrev pub loaded_block : Kept → TableNo → List ℕ → Result Stored CopyFault
loaded_block k t block = loaded (stored_of k t) (records_of block)

-- a count of looks did not rise, or rose within the looks of the load of a block without fault
abbrev pub IsWithinLoad : Contents → Kept → TableNo → List ℕ → (before now : ℕ) → Type 0
IsWithinLoad c k t block before now =
    (now ≡ before) ⊎ ((s : Stored) × (loaded_block k t block ≡ Ok s) × (now ≤ before + load_looks c t (stored_of k t) s))

-- what is stored, but of one table the first rows alone
abbrev pub first_rows : ℕ → TableNo → List Stored → List Stored
first_rows n t stored = slice_set stored t.0 (record (slice_index_or stored t.0 nothing_stored) { rows = take n (slice_index_or stored t.0 nothing_stored).rows })

-- built indexes of these definitions, those of a table without the entries of the rows from a number on
unfoldable pub cut_back : TableNo → ℕ → List NamedIndex → List Built → List Built
cut_back t n [] bs = bs
cut_back t n (x ∷ xs) [] = []
cut_back t n (x ∷ xs) (b ∷ bs) = cond (nat_eq x.index.table.0 t.0) (below n b) b ∷ cut_back t n xs bs

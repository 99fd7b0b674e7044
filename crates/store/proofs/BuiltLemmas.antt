-- A built index with the entries of more rows, and without those of the last ones.
use Rattle.std.proofs.Common.{◌≡◌, ◌≤◌, ℕ, true, false, cond, List, [], ◌∷◌, All, Option, filter, length, map, take, refl, sym, ap, subst, ◌∙◌}
use Rattle.std.specs.Prelude.{nat_lt}
use Rattle.std.proofs.lemmas.List.{map-append}
use Rattle.pg_base.specs.declared.numbers.ColNo.{ColNo}
use Rattle.pg_base.specs.declared.numbers.TableNo.{TableNo}
use Rattle.pg_value.specs.work.Order.{IsOfFamily}
use Rattle.pg_value.specs.Sorting.{in_order}
use Rattle.pg_value.proofs.SortingLemmas.{in_order_again}
use Rattle.opfamily.specs.KeyOrder.{IndexEntry, entry_order, key_family}
use Rattle.opfamily.specs.declared.classes.IndexKey.{IndexKey}
use Rattle.opfamily.specs.declared.classes.Method.{Method}
use Rattle.opfamily.specs.declared.classes.Method.TheVariants.{Btree, Hash}
use Rattle.opfamily.proofs.KeyOrderLemmas.{entries_total}
use Rattle.pg_expr.specs.Cond.{Cond}
use Rattle.heap.specs.Stored.{Values}
use Rattle.btree_index.specs.work.Tree.{IsEntryOf, Tree, with_entries}
use Rattle.hash_index.specs.work.Held.{Held, HashTable, held_order, with_held}
use Rattle.hash_index.proofs.HeldLemmas.{held_total}
use Rattle.catalog.specs.Indexes.{Index}
use Rattle.store.specs.work.Kept.{sorted, hashed, below, built_by, built_of, first_key, found, held_of, hash_table, tree_of}
use Rattle.store.proofs.FoundLemmas.{whole, whole-cut, whole-grown}
use Rattle.store.proofs.OrderLemmas.{filter-in_order}

same-tree : (a b : Tree) → sorted a ≡ sorted b → a ≡ b
same-tree a b e = cc

same-table : (a b : HashTable) → hashed a ≡ hashed b → a ≡ b
same-table a b e = cc

no-table : (a : Tree) (b : HashTable) → sorted a ≡ hashed b → ⊥
no-table a b e = cc

no-tree : (a : HashTable) (b : Tree) → hashed a ≡ sorted b → ⊥
no-tree a b e = cc

-- what stands of an entry in a hash index, of those of rows below a number
held-below : (end : ℕ) (es : List IndexEntry) → filter (λ (h : Held). nat_lt h.row end) (map held_of es) ≡ map held_of (filter (λ (e : IndexEntry). nat_lt e.row end) es)
held-below end [] = refl
held-below end (e ∷ es) = elim (nat_lt e.row end) as (λ b. cond b (held_of e ∷ filter (λ (h : Held). nat_lt h.row end) (map held_of es)) (filter (λ (h : Held). nat_lt h.row end) (map held_of es))
    ≡ map held_of (cond b (e ∷ filter (λ (x : IndexEntry). nat_lt x.row end) es) (filter (λ (x : IndexEntry). nat_lt x.row end) es)))
    [ true ↦ ap (λ l. held_of e ∷ l) (held-below end es) | false ↦ held-below end es ]

module _ (table : TableNo) (keys : List IndexKey) (include : List ColNo) (predicate : Option Cond) where
  -- a definition by its parts
  abbrev def : Method → Index
  def m = record { table = table; method = m; keys = keys; include = include; predicate = predicate }

  module _ (rows : List Values) (from : ℕ) (le : from ≤ length rows) where
    tree-grown : with_entries (tree_of (def Btree) (take from rows)) (found (def Btree) rows from) ≡ tree_of (def Btree) rows
    tree-grown =
        ap (λ (es : List IndexEntry). record { keys = keys; include = include; entries = es })
        (in_order_again (entry_order keys) (entries_total keys) (whole (def Btree) (take from rows)) (found (def Btree) rows from)
        ∙ ap (in_order (entry_order keys)) (sym (whole-grown (def Btree) rows from le)))

    table-grown : with_held (hash_table (def Hash) (take from rows)) (map held_of (found (def Hash) rows from)) ≡ hash_table (def Hash) rows
    table-grown =
        let order = held_order (first_key keys) in
        ap (λ (hs : List Held). record { key = first_key keys; held = hs })
        (in_order_again order (held_total (first_key keys)) (map held_of (whole (def Hash) (take from rows))) (map held_of (found (def Hash) rows from))
        ∙ ap (in_order order) (sym (map-append held_of (whole (def Hash) (take from rows)) (found (def Hash) rows from)) ∙ ap (map held_of) (sym (whole-grown (def Hash) rows from le))))

    sorted-by : (m : Method) (t : Tree) → sorted t ≡ built_by m (def m) (take from rows) → (u : Tree) → u ≡ with_entries t (found (def m) rows from) → sorted u ≡ built_by m (def m) rows
    sorted-by Btree t is u grown = ap sorted (grown ∙ ap (λ (x : Tree). with_entries x (found (def Btree) rows from)) (same-tree t _ is) ∙ tree-grown)
    sorted-by Hash t is u grown = absurd (no-table t _ is)

    hashed-by : (m : Method) (t : HashTable) → hashed t ≡ built_by m (def m) (take from rows) → (u : HashTable) → u ≡ with_held t (map held_of (found (def m) rows from)) → hashed u ≡ built_by m (def m) rows
    hashed-by Hash t is u grown = ap hashed (grown ∙ ap (λ (x : HashTable). with_held x (map held_of (found (def Hash) rows from))) (same-table t _ is) ∙ table-grown)
    hashed-by Btree t is u grown = absurd (no-tree t _ is)

    below-by : (m : Method) → below from (built_by m (def m) rows) ≡ built_by m (def m) (take from rows)
    below-by Btree =
        ap (λ (es : List IndexEntry). sorted (record { keys = keys; include = include; entries = es }))
        (filter-in_order (entry_order keys) (entries_total keys) (λ (e : IndexEntry). nat_lt e.row from) (whole (def Btree) rows)
        ∙ ap (in_order (entry_order keys)) (whole-cut (def Btree) rows from le))
    below-by Hash =
        let order = held_order (first_key keys) in
        ap (λ (hs : List Held). hashed (record { key = first_key keys; held = hs }))
        (filter-in_order order (held_total (first_key keys)) (λ (h : Held). nat_lt h.row from) (map held_of (whole (def Hash) rows))
        ∙ ap (in_order order) (held-below from (whole (def Hash) rows) ∙ ap (map held_of) (whole-cut (def Hash) rows from le)))

  keys-of-tree : (m : Method) (rows : List Values) (t : Tree) → sorted t ≡ built_by m (def m) rows → (t.keys ≡ keys) × (t.include ≡ include)
  keys-of-tree Btree rows t is = let same = same-tree t _ is in (ap (λ (x : Tree). x.keys) same, ap (λ (x : Tree). x.include) same)
  keys-of-tree Hash rows t is = absurd (no-table t _ is)

  key-of-table : (m : Method) (rows : List Values) (t : HashTable) → hashed t ≡ built_by m (def m) rows → t.key ≡ first_key keys
  key-of-table Hash rows t is = ap (λ (x : HashTable). x.key) (same-table t _ is)
  key-of-table Btree rows t is = absurd (no-tree t _ is)

module _ (d : Index) (rows : List Values) (from : ℕ) (le : from ≤ length rows) where
  -- a built index over the first rows, with the entries of the others
  pub sorted-grown : (t : Tree) → sorted t ≡ built_of d (take from rows) → (u : Tree) → u ≡ with_entries t (found d rows from) → sorted u ≡ built_of d rows
  sorted-grown = sorted-by d.table d.keys d.include d.predicate rows from le d.method

  pub hashed-grown : (t : HashTable) → hashed t ≡ built_of d (take from rows) → (u : HashTable) → u ≡ with_held t (map held_of (found d rows from)) → hashed u ≡ built_of d rows
  hashed-grown = hashed-by d.table d.keys d.include d.predicate rows from le d.method

  -- a built index without the entries of rows from a number on is one over the first rows
  pub below-built : below from (built_of d rows) ≡ built_of d (take from rows)
  below-built = below-by d.table d.keys d.include d.predicate rows from le d.method

  pub sorted-fits : (t : Tree) → sorted t ≡ built_of d (take from rows) → (es : List IndexEntry) → All (IsEntryOf d.keys d.include) es → All (IsEntryOf t.keys t.include) es
  sorted-fits t is es fits =
      let same = keys-of-tree d.table d.keys d.include d.predicate d.method (take from rows) t is in
      subst (λ (ks : List IndexKey). All (IsEntryOf ks t.include) es) (sym same.0) (subst (λ (cs : List ColNo). All (IsEntryOf d.keys cs) es) (sym same.1) fits)

  pub hashed-fits : (t : HashTable) → hashed t ≡ built_of d (take from rows) → (hs : List Held) → All (λ (h : Held). IsOfFamily (key_family (first_key d.keys)) h.value) hs → All (λ (h : Held). IsOfFamily (key_family t.key) h.value) hs
  hashed-fits t is hs fits =
      subst (λ (k : IndexKey). All (λ (h : Held). IsOfFamily (key_family k) h.value) hs) (sym (key-of-table d.table d.keys d.include d.predicate d.method (take from rows) t is)) fits

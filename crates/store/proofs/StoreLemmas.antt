-- A store of a catalogue: its parts by number, and after one more index and after a load.
use Rattle.std.proofs.Common.{◌≡◌, ◌<◌, ◌≤◌, ◌+◌, ◌-◌, ℕ, zero, suc, List, [], ◌∷◌, ◌++◌, Some, Result, Ok, Err, length, get_or, map, set, take, refl, subst, sym, ap, ap₂, ◌∙◌, arith}
use Rattle.std.specs.Prelude.{slice_get}
use Rattle.std.specs.List.{AllZip}
use Rattle.std.specs.Result.{OnErr}
use Rattle.std.proofs.lemmas.List.{get_or-map, get_or-set_same, length-append, length-map, map-append, set-get_or, take_all, take_more}
use Rattle.std.proofs.Math.ListN.{length-set}
use Rattle.std.proofs.Math.Seq.{set-set, take-append_seam}
use Rattle.std.proofs.lemmas.Option.{get_or_from_slice_get, slice_get-get_or}
use Rattle.pg_base.specs.declared.numbers.IndexNo.{IndexNo}
use Rattle.pg_base.specs.declared.numbers.TableNo.{TableNo}
use Rattle.pg_base.specs.declared.limits.TheConstants.{MOST_ROWS}
use Rattle.pg_value.specs.declared.columns.Column.{Column}
use Rattle.heap.specs.declared.fault.CopyFault.{CopyFault}
use Rattle.heap.specs.Loading.{loaded, rows_from, with_rows}
use Rattle.heap.specs.Stored.{IsLawfulData, Stored, Values}
use Rattle.catalog.specs.Contents.{Contents, IsIndex, IsTable, NamedIndex, TableDef, index_at, no_index, no_table, table_at, with_loaded}
use Rattle.catalog.specs.work.Contents.{IsLastIndex, indexes_before}
use Rattle.catalog.specs.Contents as catalog
use Rattle.catalog.specs.work.Contents as catalog_work
use Rattle.catalog.specs.Indexes.{Index, IsLawfulIndex}
use Rattle.sql_query.specs.Worlds.{Holds, nothing_stored, stored_at, world}
use Rattle.store.specs.work.Kept.{Built, IsStoreOf, Kept, built_of, built_over, first_rows, stored_of}
use Rattle.store.proofs.GrowthLemmas.{lawful-index}

module _ {A B : Type 0} (R : A → B → Type 0) where
  zip-long : (xs : List A) (ys : List B) → AllZip R xs ys → length xs ≡ length ys
  zip-long [] [] h = refl
  zip-long [] (y ∷ ys) h = absurd h
  zip-long (x ∷ xs) [] h = absurd h
  zip-long (x ∷ xs) (y ∷ ys) h = ap suc (zip-long xs ys h.1)

  zip-at : (xs : List A) (ys : List B) (i : ℕ) (d : A) (e : B) → AllZip R xs ys → i < length xs → R (get_or xs i d) (get_or ys i e)
  zip-at [] ys i d e h lt = absurd (omega (arith, lt))
  zip-at (x ∷ xs) [] i d e h lt = absurd h
  zip-at (x ∷ xs) (y ∷ ys) zero d e h lt = h.0
  zip-at (x ∷ xs) (y ∷ ys) (suc i) d e h lt = zip-at xs ys i d e h.1 (omega (arith, lt))

  zip-set : (xs : List A) (ys : List B) (i : ℕ) (x : A) (y : B) → AllZip R xs ys → R x y → AllZip R (set xs i x) (set ys i y)
  zip-set [] [] i x y h r = tt
  zip-set [] (b ∷ ys) i x y h r = absurd h
  zip-set (a ∷ xs) [] i x y h r = absurd h
  zip-set (a ∷ xs) (b ∷ ys) zero x y h r = (r, h.1)
  zip-set (a ∷ xs) (b ∷ ys) (suc i) x y h r = (h.0, zip-set xs ys i x y h.1 r)

module _ (c : Contents) (k : Kept) (of : IsStoreOf c k) where
  pub as-many-stored : length c.tables ≡ length k.stored
  as-many-stored = zip-long Holds c.tables k.stored of.world

  pub as-many-built : length k.built ≡ length c.indexes
  as-many-built = ap (λ l. length l) of.built ∙ length-map c.indexes (built_over k.stored)

  -- what is stored of a table is lawful, with the table's columns
  pub holds : (t : TableNo) → IsTable c t → Holds (table_at c t) (get_or k.stored t.0 nothing_stored)
  holds t is = zip-at Holds c.tables k.stored t.0 no_table nothing_stored of.world is

  -- an index by its number
  pub built-at : (i : IndexNo) → IsIndex c i → slice_get k.built i.0 ≡ Some (built_of (index_at c i) (stored_at (world c k.stored) (index_at c i).table).rows)
  built-at i is =
      let default = built_over k.stored no_index in
      let many = as-many-built in
      slice_get-get_or k.built i.0 default (omega (arith, many, is))
      ∙ ap Some (ap (λ l. get_or l i.0 default) of.built ∙ get_or-map (built_over k.stored) c.indexes i.0 no_index default is)

-- what is read of a store by its parts
pub heap-is : (k : Kept) (stored : List Stored) (bs : List Built) → record { stored = stored; built = bs } ≡ k → (t u : TableNo) → t ≡ u → (h : Stored) → slice_get stored t.0 ≡ Some h → h ≡ stored_of k u
heap-is k stored bs view t u same h at =
    sym (get_or_from_slice_get stored t.0 h nothing_stored at) ∙ ap₂ (λ (l : List Stored) (x : TableNo). get_or l x.0 nothing_stored) (ap (λ (x : Kept). x.stored) view) same

-- one more index, the last
module _ (c : Contents) (lawful : catalog.IsLawful c) (stored : List Stored) (bs : List Built) (i : IndexNo) (last : IsLastIndex c i) (of : IsStoreOf (indexes_before c i) (record { stored = stored; built = bs })) (d : Index) (is : d ≡ index_at c i) where
  is-index : i.0 < length c.indexes
  is-index = omega (arith, last)

  is-table : IsTable c d.table
  is-table = subst (λ (x : Index). IsTable c x.table) (sym is) (lawful.indexes i.0 no_index is-index).table

  pub table-within : d.table.0 < length stored
  table-within = let many = zip-long Holds c.tables stored of.world in omega (arith, many, is-table)

  pub added-lawful : (h : Stored) → slice_get stored d.table.0 ≡ Some h → IsLawfulIndex h.columns d
  added-lawful h at =
      lawful-index c lawful i.0 d.table d is-index is refl h.columns
      (ap (λ (s : Stored). s.columns) (sym (get_or_from_slice_get stored d.table.0 h nothing_stored at)) ∙ (zip-at Holds c.tables stored d.table.0 no_table nothing_stored of.world is-table).columns)

  pub index-added : (h : Stored) → slice_get stored d.table.0 ≡ Some h → (b : Built) → b ≡ built_of d h.rows → (new : List Built) → new ≡ bs ++ b ∷ [] → IsStoreOf c (record { stored = stored; built = new })
  index-added h at b one new more =
      let last-built : b ≡ built_over stored (get_or c.indexes i.0 no_index) =
      one ∙ ap (λ (s : Stored). built_of d s.rows) (sym (get_or_from_slice_get stored d.table.0 h nothing_stored at)) ∙ ap (λ (x : Index). built_of x (get_or stored x.table.0 nothing_stored).rows) is
      in record {
        world = of.world;
        built =
            more ∙ ap₂ (λ l x. l ++ x ∷ []) of.built last-built
            ∙ sym (map-append (built_over stored) (take i.0 c.indexes) (get_or c.indexes i.0 no_index ∷ []))
            ∙ ap (map (built_over stored)) (sym (take_more c.indexes i.0 no_index is-index) ∙ take_all (i.0 + 1) c.indexes (omega (arith, last)));
      }

-- the rows that a load has put behind the others
loaded-by : (h s : Stored) (r : Result (List Values) CopyFault) → with_rows h r ≡ Ok s → (take (length h.rows) s.rows ≡ h.rows) × (s.columns ≡ h.columns) × (length h.rows ≤ length s.rows)
loaded-by h s (Ok rows) e =
    let same : record { columns = h.columns; rows = h.rows ++ rows } ≡ s = cc in
    let long = length-append h.rows rows in
    let more = ap (λ (x : Stored). length x.rows) same in (
      ap (λ (x : Stored). take (length h.rows) x.rows) (sym same) ∙ take-append_seam h.rows rows,
      ap (λ (x : Stored). x.columns) (sym same),
      omega (arith, long, more),
    )
loaded-by h s (Err f) e = absurd (cc)

-- a table with more rows behind its n rows
module _ (c : Contents) (stored : List Stored) (bs : List Built) (t : TableNo) (is : IsTable c t) (of : IsStoreOf c (record { stored = stored; built = bs })) where
  pub inside : t.0 < length stored
  inside = let many = zip-long Holds c.tables stored of.world in omega (arith, many, is)

  pub what-is-there : (s : Stored) → slice_get stored t.0 ≡ Some s → s ≡ get_or stored t.0 nothing_stored
  what-is-there s at = sym (get_or_from_slice_get stored t.0 s nothing_stored at)

  module _ (old : Stored) (at : old ≡ get_or stored t.0 nothing_stored) (n : ℕ) (count : n ≡ length old.rows) (new : Stored) (rs : List (List (List ℕ))) (load : loaded old rs ≡ Ok new) (lawful : IsLawfulData new) where
    parts : (take n new.rows ≡ old.rows) × (new.columns ≡ old.columns) × (n ≤ length new.rows)
    parts = subst (λ m. (take m new.rows ≡ old.rows) × (new.columns ≡ old.columns) × (m ≤ length new.rows)) (sym count) (loaded-by old new (rows_from old.columns (MOST_ROWS - length old.rows) 1 rs) load)

    pub there : get_or (set stored t.0 new) t.0 nothing_stored ≡ new
    there = get_or-set_same stored t.0 new nothing_stored inside

    pub still-inside : t.0 < length (set stored t.0 new)
    still-inside = let long = length-set stored t.0 new in let here = inside in omega (arith, long, here)

    columns-are : new.columns ≡ (table_at c t).columns
    columns-are = parts.1 ∙ ap (λ (s : Stored). s.columns) at ∙ (zip-at Holds c.tables stored t.0 no_table nothing_stored of.world is).columns

    pub same-columns : (get_or (set stored t.0 new) t.0 nothing_stored).columns ≡ (table_at c t).columns
    same-columns = ap (λ (s : Stored). s.columns) there ∙ columns-are

    pub no-fewer : n ≤ length (get_or (set stored t.0 new) t.0 nothing_stored).rows
    no-fewer = subst (λ (s : Stored). n ≤ length s.rows) (sym there) parts.2

    -- its first rows are what it had
    pub put-back : (s : Stored) → s ≡ record { columns = new.columns; rows = take n new.rows } → set (set stored t.0 new) t.0 s ≡ stored
    put-back s e =
        let same : s ≡ get_or stored t.0 nothing_stored = e ∙ ap₂ (λ (cs : List Column) (l : List Values). record { columns = cs; rows = l }) parts.1 parts.0 ∙ at in
        ap (set (set stored t.0 new) t.0) same ∙ set-set stored t.0 new (get_or stored t.0 nothing_stored) ∙ set-get_or stored t.0 nothing_stored

    pub built-before : bs ≡ map (built_over (first_rows n t (set stored t.0 new))) c.indexes
    built-before =
        of.built ∙ ap (λ (l : List Stored). map (built_over l) c.indexes)
        (sym (put-back _ (ap (λ (s : Stored). record { columns = s.columns; rows = take n s.rows }) there)))

    pub store-after : (built : List Built) → built ≡ map (built_over (set stored t.0 new)) c.indexes
        → IsStoreOf (with_loaded c t (length (get_or (set stored t.0 new) t.0 nothing_stored).rows)) (record { stored = set stored t.0 new; built = built })
    store-after built are = record {
      world = zip-set Holds c.tables stored t.0 _ new of.world (record { columns = columns-are; loaded = ap (λ (s : Stored). length s.rows) there; lawful = lawful });
      built = are;
    }

-- what is refused
pub not-loaded : (k : Kept) (stored : List Stored) (bs : List Built) → record { stored = stored; built = bs } ≡ k → (t : TableNo) (old new : Stored) → old ≡ get_or stored t.0 nothing_stored → new ≡ old → record { stored = set stored t.0 new; built = bs } ≡ k
not-loaded k stored bs view t old new at same = ap (λ (l : List Stored). record { stored = l; built = bs }) (ap (set stored t.0) (same ∙ at) ∙ set-get_or stored t.0 nothing_stored) ∙ view

pub taken-back : (k : Kept) (stored now : List Stored) (bs built : List Built) → record { stored = stored; built = bs } ≡ k → now ≡ stored → built ≡ bs → record { stored = now; built = built } ≡ k
taken-back k stored now bs built view same are = ap₂ (λ (l : List Stored) (b : List Built). record { stored = l; built = b }) same are ∙ view

pub others-kept : (k : Kept) (stored now : List Stored) (bs : List Built) → record { stored = stored; built = bs } ≡ k → (t : TableNo) → now ≡ stored → now ≡ set k.stored t.0 (get_or now t.0 nothing_stored)
others-kept k stored now bs view t same =
    same ∙ sym (set-get_or stored t.0 nothing_stored) ∙ ap₂ (λ (l m : List Stored). set l t.0 (get_or m t.0 nothing_stored)) (ap (λ (x : Kept). x.stored) view) (sym same)

pub on-err : {T E P : Type 0} (r : Result T E) → P → OnErr r P
on-err (Ok x) p = tt
on-err (Err x) p = p

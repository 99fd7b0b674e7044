-- A new table has no index, and a store by the number of a table.
use Rattle.std.proofs.Common.{◌≡◌, ◌<◌, ◌+◌, ◌-◌, ◌*◌, ◌∙◌, ℕ, List, [], Some, length, set, ap, arith, subst, sym}
use Rattle.std.specs.Prelude.{slice_get}
use Rattle.std.proofs.Math.ListN.{length-set}
use Rattle.std.proofs.lemmas.Option.{get_or_from_slice_get}
use Rattle.pg_base.specs.declared.numbers.TableNo.{TableNo}
use Rattle.heap.specs.Stored.{Stored}
use Rattle.catalog.specs.Contents.{Contents, IsLawful, IsTable, TableDef, indexes_of, table_at, with_loaded, with_table}
use Rattle.catalog.proofs.NumberLemmas.{numbers-past}
use Rattle.sql_query.specs.Worlds.{nothing_stored, world}
use Rattle.store.specs.Kept.{load_looks}
use Rattle.store.specs.work.Kept.{IsStoreOf, Kept, stored_of}
use Rattle.store.proofs.StoreLemmas.{as-many-stored, holds}
use Rattle.store.specs.Actions.{after, fill}

pub bare : (c : Contents) (d : TableDef) (t : TableNo) → IsLawful c → t.0 ≡ length c.tables → indexes_of (with_table c d) t ≡ []
bare c d t lawful at = numbers-past 0 c.indexes t (λ n x lt. let is = (lawful.indexes n x lt).table in omega (arith, is, at))

module _ (c : Contents) (k : Kept) (of : IsStoreOf c k) (t : TableNo) (is : IsTable c t) where
  pub columns-are : (stored_of k t).columns ≡ (table_at c t).columns
  columns-are = (holds c k of t is).columns

  module _ (new : Kept) (others : new.stored ≡ set k.stored t.0 (stored_of new t)) where
    pub still-there : t.0 < length new.stored
    still-there = let many = as-many-stored c k of in let long = ap length others ∙ length-set k.stored t.0 (stored_of new t) in omega (arith, many, long, is)

    pub filled : (h : Stored) → slice_get new.stored t.0 ≡ Some h → (rows : ℕ) → rows ≡ length h.rows → (d : Contents) → d ≡ with_loaded c t rows → world d new.stored ≡ after (world c k.stored) (fill t (stored_of new t))
    filled h at rows count d made =
        let here : h ≡ stored_of new t = sym (get_or_from_slice_get new.stored t.0 h nothing_stored at) in
        ap (λ (x : Contents). world x new.stored) (made ∙ ap (with_loaded c t) (count ∙ ap (λ (s : Stored). length s.rows) here))
        ∙ ap (λ (l : List Stored). world (with_loaded c t (length (stored_of new t).rows)) l) others

    -- a loaded store is that of the catalogue with the number of rows
    pub loaded-store : (h : Stored) → slice_get new.stored t.0 ≡ Some h → (rows : ℕ) → rows ≡ length h.rows → (d : Contents) → d ≡ with_loaded c t rows → IsStoreOf (with_loaded c t (length (stored_of new t).rows)) new → IsStoreOf d new
    loaded-store h at rows count d made so =
        let here : h ≡ stored_of new t = sym (get_or_from_slice_get new.stored t.0 h nothing_stored at) in
        subst (λ (x : Contents). IsStoreOf x new) (sym (made ∙ ap (with_loaded c t) (count ∙ ap (λ (s : Stored). length s.rows) here))) so

-- the looks at so many new rows
pub looks-are : (c : Contents) (t : TableNo) (old new : Stored) (n before now : ℕ) → length new.rows ≡ length old.rows + n → now ≡ before + length (indexes_of c t) * n → now ≡ before + load_looks c t old new
looks-are c t old new n before now count is =
    let more : n ≡ length new.rows - length old.rows = omega (arith, count) in
    is ∙ ap (λ m. before + length (indexes_of c t) * m) more

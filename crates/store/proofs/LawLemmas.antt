-- A store follows its catalogue: after a new table, after other statistics, and before its newest index.
use Rattle.std.proofs.Common.{◌≡◌, ◌<◌, ℕ, zero, suc, List, [], ◌∷◌, ◌++◌, All, length, get_or, map, set, take, refl, sym, ap, ap₂, ◌∙◌, arith}
use Rattle.std.specs.List.{AllZip}
use Rattle.std.proofs.Math.Seq.{take-append_seam}
use Rattle.std.proofs.lemmas.List.{get_or_append_left}
use Rattle.std.proofs.lemmas.List.Elements.{All-head, All-nil, All-tail}
use Rattle.pg_base.specs.declared.numbers.IndexNo.{IndexNo}
use Rattle.pg_base.specs.declared.numbers.TableNo.{TableNo}
use Rattle.pg_value.specs.declared.columns.Column.{Column}
use Rattle.heap.specs.Stored.{IsRowOf, Stored}
use Rattle.catalog.specs.Contents.{Contents, IsLawful, NamedIndex, TableDef, new_table, no_table, table_at, with_definition, with_index, with_table}
use Rattle.catalog.specs.work.Contents.{indexes_before}
use Rattle.catalog.specs.Indexes.{Index}
use Rattle.sql_query.specs.Worlds.{Holds, nothing_stored}
use Rattle.store.specs.work.Kept.{Built, IsStoreOf, Kept, built_of, built_over, with_heap}
use Rattle.store.proofs.StoreLemmas.{as-many-stored}

module _ {A B : Type 0} (R : A → B → Type 0) where
  zip-push : (xs : List A) (ys : List B) (x : A) (y : B) → AllZip R xs ys → R x y → AllZip R (xs ++ x ∷ []) (ys ++ y ∷ [])
  zip-push [] [] x y h r = (r, tt)
  zip-push [] (b ∷ ys) x y h r = absurd h
  zip-push (a ∷ xs) [] x y h r = absurd h
  zip-push (a ∷ xs) (b ∷ ys) x y h r = (h.0, zip-push xs ys x y h.1 r)

  zip-first : (xs : List A) (ys : List B) (i : ℕ) (d x : A) (e : B) → AllZip R xs ys → (R (get_or xs i d) (get_or ys i e) → R x (get_or ys i e)) → AllZip R (set xs i x) ys
  zip-first [] [] i d x e h r = tt
  zip-first [] (b ∷ ys) i d x e h r = absurd h
  zip-first (a ∷ xs) [] i d x e h r = absurd h
  zip-first (a ∷ xs) (y ∷ ys) zero d x e h r = (r h.0, h.1)
  zip-first (a ∷ xs) (y ∷ ys) (suc i) d x e h r = (h.0, zip-first xs ys i d x e h.1 r)

-- indexes of tables there are built over the same rows beside one more table
same-built : (stored : List Stored) (h : Stored) (xs : List NamedIndex) → All (λ (x : NamedIndex). x.index.table.0 < length stored) xs → map (built_over stored) xs ≡ map (built_over (stored ++ h ∷ [])) xs
same-built stored h [] each = refl
same-built stored h (x ∷ xs) each =
    let Inside : NamedIndex → Type 0 = λ (y : NamedIndex). y.index.table.0 < length stored in
    let lt = All-head Inside x xs each in
    ap₂ (λ (b : Built) l. b ∷ l)
    (ap (λ (s : Stored). built_of x.index s.rows) (sym (get_or_append_left stored (h ∷ []) nothing_stored x.index.table.0 lt)))
    (same-built stored h xs (All-tail Inside x xs each))

pub table-added : (c : Contents) (k : Kept) (name : List ℕ) (names : List (List ℕ)) (columns : List Column) → IsLawful c → IsStoreOf c k → IsStoreOf (with_table c (new_table name names columns)) (with_heap k (record { columns = columns; rows = [] }))
table-added c k name names columns lawful of =
    let many = as-many-stored c k of in record {
      world = zip-push Holds c.tables k.stored _ _ of.world (record { columns = refl; loaded = refl; lawful = record { few = omega arith; each = All-nil (IsRowOf columns) } });
      built = of.built ∙ same-built k.stored (record { columns = columns; rows = [] }) c.indexes (λ n x lt. let is = (lawful.indexes n x lt).table in omega (arith, is, many));
    }

pub definition-changed : (c : Contents) (k : Kept) (t : TableNo) (d : TableDef) → d.columns ≡ (table_at c t).columns → d.loaded ≡ (table_at c t).loaded → IsStoreOf c k → IsStoreOf (with_definition c t d) k
definition-changed c k t d columns loaded of = record {
  world = zip-first Holds c.tables k.stored t.0 no_table d nothing_stored of.world (λ is. record { columns = is.columns ∙ sym columns; loaded = loaded ∙ is.loaded; lawful = is.lawful });
  built = of.built;
}

pub before-added : (c : Contents) (name : List ℕ) (x : Index) (i : IndexNo) → i.0 ≡ length c.indexes → indexes_before (with_index c name x) i ≡ c
before-added c name x i last = ap (λ (l : List NamedIndex). record { tables = c.tables; indexes = l }) (ap (λ n. take n (c.indexes ++ record { name = name; index = x } ∷ [])) last ∙ take-append_seam c.indexes _)

-- What a write to the maps does to the contents, and to the lists of numbers that tables keep.
use Rattle.std.proofs.Common.{◌≡◌, ◌≢◌, ◌<◌, ◌+◌, ◌-◌, ◌++◌, ◌∷◌, [], ◌∙◌, ◌↔◌, ℕ, List, Vec, Global, Option, Some, None, IsSome, length, map, take, set, slice_get, Contains, refl, sym, ap, subst, arith}
use Rattle.std.specs.Map.{keys_of, values_of}
use Rattle.std.specs.Option.{option_to_list}
use Rattle.std.specs.Str.{bytes_eq}
use Rattle.std.proofs.Math.Seq.{get_or-append_seam, take-append_seam}
use Rattle.std.proofs.lemmas.List.Elements.{Contains-append_left, Contains-append_right}
use Rattle.std.proofs.lemmas.List.{length-append, length-map, map-append, set-get_or}
use Rattle.std.proofs.Math.Nat.{zero-add}
use Rattle.indexmap.specs.IndexMap.{insert_entry, set_value_at}
use Rattle.pg_base.specs.declared.limits.TheConstants.{MOST_INDEXES, MOST_TABLES}
use Rattle.pg_base.specs.declared.numbers.IndexNo.{IndexNo}
use Rattle.pg_base.specs.declared.numbers.TableNo.{TableNo}
use Rattle.catalog.specs.Contents.{Contents, NamedIndex, TableDef, IsIndexOf, IsLawful, IsLawfulTable, IsTable, index_names, indexes_of, no_index, no_table, numbers_from, table_at, table_names, with_definition, with_index, with_table}
use Rattle.catalog.specs.work.Entries.{AreListed, contents_of, index_of, named_index, table_def}
use Rattle.catalog.specs.work.Keys.{key_names}
use Rattle.catalog.specs.Tables.{IsUnused}
use Rattle.catalog.specs.declared.index_def.IndexDef.{IndexDef}
use Rattle.catalog.specs.declared.table.Table.{Table}
use Rattle.catalog.proofs.EntryLemmas.{def-of_value, defs-set, entries-added, keyed, listed-added, listed-at, listed-cut, listed-set, listed-value, names-of}
use Rattle.catalog.proofs.LawfulLemmas.{lawful-defined, lawful-index, lawful-table, lawful-unindexed, lawful-untabled, none-past}
use Rattle.catalog.proofs.NumberLemmas.{numbers-other, numbers-same}

-- the list that the entry of a table has, and that its value has
pub listed-entry : (xs : List NamedIndex) (es : List (Vec ℕ Global × Table)) (t : TableNo) (e : Vec ℕ Global × Table) → AreListed xs 0 es → slice_get es t.0 ≡ Some e → e.1.indexes.items ≡ numbers_from 0 xs t
listed-entry xs es t e h at = listed-at xs 0 es t.0 e h at ∙ ap (λ k. numbers_from 0 xs (record { 0 = k })) (zero-add t.0)

pub listed-old : (xs : List NamedIndex) (es : List (Vec ℕ Global × Table)) (t : TableNo) (old : Table) → AreListed xs 0 es → slice_get (values_of es) t.0 ≡ Some old → old.indexes.items ≡ numbers_from 0 xs t
listed-old xs es t old h at = listed-value xs 0 es t.0 old h at ∙ ap (λ k. numbers_from 0 xs (record { 0 = k })) (zero-add t.0)

relisted : (xs ys : List NamedIndex) (es : List (Vec ℕ Global × Table)) (t : TableNo) (new : Table) → AreListed xs 0 es →
    ((u : TableNo) → u.0 ≢ t.0 → numbers_from 0 xs u ≡ numbers_from 0 ys u) → new.indexes.items ≡ numbers_from 0 ys t → AreListed ys 0 (set_value_at es t.0 new)
relisted xs ys es t new h others here =
    listed-set xs ys 0 es t.0 new h (λ u ne. others u (λ same. ne (same ∙ sym (zero-add t.0)))) (here ∙ ap (λ k. numbers_from 0 ys (record { 0 = k })) (sym (zero-add t.0)))

module _ (es : List (Vec ℕ Global × Table)) (is : List (Vec ℕ Global × IndexDef)) (t : TableNo) (old new : Table) (at : slice_get (values_of es) t.0 ≡ Some old) (change : TableDef → TableDef) (same : (n : List ℕ) → keyed n new ≡ change (keyed n old)) where
  -- another value of a table is another definition
  pub written : contents_of (set_value_at es t.0 new) is ≡ with_definition (contents_of es is) t (change (table_at (contents_of es is) t))
  written =
      ap (λ (l : List TableDef). record { tables = l; indexes = map named_index is })
      (defs-set es t.0 new ∙ ap (set (map table_def es) t.0) (same _ ∙ ap change (sym (def-of_value es t.0 old at))))

  -- with another definition of a table that is lawful, the list of indexes as it was, the contents stay lawful and listed
  pub kept : IsTable (contents_of es is) t → (change (table_at (contents_of es is) t)).name ≡ (table_at (contents_of es is) t).name → (change (table_at (contents_of es is) t)).columns ≡ (table_at (contents_of es is) t).columns →
      IsLawfulTable (change (table_at (contents_of es is) t)) → new.indexes.items ≡ old.indexes.items → IsLawful (contents_of es is) × AreListed (map named_index is) 0 es →
      IsLawful (contents_of (set_value_at es t.0 new) is) × AreListed (map named_index is) 0 (set_value_at es t.0 new)
  kept lt named columns lawful list h = (
    subst IsLawful (sym written) (lawful-defined (contents_of es is) t (change (table_at (contents_of es is) t)) lt named columns lawful h.0),
    relisted (map named_index is) (map named_index is) es t new h.1 (λ u ne. refl) (list ∙ listed-old (map named_index is) es t old h.1 at),
  )

-- a table where a value stands
pub is_table : (es : List (Vec ℕ Global × Table)) (is : List (Vec ℕ Global × IndexDef)) (c : Contents) (t : TableNo) → contents_of es is ≡ c → IsTable c t → IsTable (contents_of es is) t
is_table es is c t view lt = subst (λ (l : Contents). IsTable l t) (sym view) lt

unused-table : (es : List (Vec ℕ Global × Table)) (is : List (Vec ℕ Global × IndexDef)) (k : Vec ℕ Global) → IsUnused (contents_of es is) k.items → Contains (key_names (keys_of es)) k.items → ⊥
unused-table es is k free h = free (Contains-append_left (table_names (contents_of es is)) (index_names (contents_of es is)) k.items (subst (λ l. Contains l k.items) (names-of table_def (λ d. d.name) (λ e. refl) es) h))

unused-index : (es : List (Vec ℕ Global × Table)) (is : List (Vec ℕ Global × IndexDef)) (k : Vec ℕ Global) → IsUnused (contents_of es is) k.items → Contains (key_names (keys_of is)) k.items → ⊥
unused-index es is k free h = free (Contains-append_right (table_names (contents_of es is)) (index_names (contents_of es is)) k.items (subst (λ l. Contains l k.items) (names-of named_index (λ d. d.name) (λ e. refl) is) h))

module _ (es more : List (Vec ℕ Global × Table)) (is : List (Vec ℕ Global × IndexDef)) (k : Vec ℕ Global) (v : Table) (entries : more ≡ insert_entry (λ a b. bytes_eq a.items b.items) es k v) (free : IsUnused (contents_of es is) k.items) where
  grown : more ≡ es ++ (k, v) ∷ []
  grown = entries ∙ entries-added es k v (unused-table es is k free)

  -- the contents after a new table
  pub table-added : contents_of more is ≡ with_table (contents_of es is) (table_def (k, v))
  table-added = ap (λ (l : List (Vec ℕ Global × Table)). contents_of l is) grown ∙ ap (λ (l : List TableDef). record { tables = l; indexes = map named_index is }) (map-append table_def es ((k, v) ∷ []))

  pub table-kept : IsLawfulTable (table_def (k, v)) → length (contents_of es is).tables < MOST_TABLES → v.indexes.items ≡ [] → IsLawful (contents_of es is) × AreListed (map named_index is) 0 es →
      IsLawful (contents_of more is) × AreListed (map named_index is) 0 more
  table-kept lawful room none h =
      let len = length-map es table_def in
      let past = ap (λ n. numbers_from 0 (map named_index is) (record { 0 = n })) (zero-add (length es) ∙ sym len) ∙ none-past (contents_of es is) h.0 in (
        subst IsLawful (sym table-added) (lawful-table (contents_of es is) (table_def (k, v)) lawful free room h.0),
        subst (AreListed (map named_index is) 0) (sym grown) (listed-added (map named_index is) 0 es k v h.1 none past),
      )

module _ (es : List (Vec ℕ Global × Table)) (is more : List (Vec ℕ Global × IndexDef)) (k : Vec ℕ Global) (d : IndexDef) (entries : more ≡ insert_entry (λ a b. bytes_eq a.items b.items) is k d) (free : IsUnused (contents_of es is) k.items) where
  grown-indexes : map named_index more ≡ map named_index is ++ named_index (k, d) ∷ []
  grown-indexes = ap (map named_index) (entries ∙ entries-added is k d (unused-index es is k free)) ∙ map-append named_index is ((k, d) ∷ [])

  module _ (old new : Table) (at : slice_get (values_of es) d.table.0 ≡ Some old) (same : (n : List ℕ) → keyed n new ≡ keyed n old) where
    -- the contents after a new index
    pub index-added : contents_of (set_value_at es d.table.0 new) more ≡ with_index (contents_of es is) k.items (index_of d)
    index-added =
        ap (λ (l : List NamedIndex). record { tables = map table_def (set_value_at es d.table.0 new); indexes = l }) grown-indexes
        ∙ ap (λ (l : List TableDef). record { tables = l; indexes = map named_index is ++ named_index (k, d) ∷ [] })
        (defs-set es d.table.0 new ∙ ap (set (map table_def es) d.table.0) (same _ ∙ sym (def-of_value es d.table.0 old at)) ∙ set-get_or (map table_def es) d.table.0 no_table)

    pub index-kept : IsIndexOf (contents_of es is) (named_index (k, d)) → length (indexes_of (contents_of es is) d.table) < MOST_INDEXES → new.indexes.items ≡ old.indexes.items ++ record { 0 = length is } ∷ [] →
        IsLawful (contents_of es is) × AreListed (map named_index is) 0 es → IsLawful (contents_of (set_value_at es d.table.0 new) more) × AreListed (map named_index more) 0 (set_value_at es d.table.0 new)
    index-kept lawful room list h =
        let xs = map named_index is in
        let x = named_index (k, d) in
        let number : IndexNo = record { 0 = length is } in
        let next : 0 + length xs ≡ length is = zero-add (length xs) ∙ length-map is named_index in
        let here = list ∙ ap (λ l. l ++ number ∷ []) (listed-old xs es d.table old h.1 at) ∙ ap (λ n. numbers_from 0 xs d.table ++ record { 0 = n } ∷ []) (sym next) ∙ sym (numbers-same 0 xs x d.table refl) in (
          subst IsLawful (sym index-added) (lawful-index (contents_of es is) k.items (index_of d) lawful free room h.0),
          subst (λ l. AreListed l 0 (set_value_at es d.table.0 new)) (sym grown-indexes)
              (relisted xs (xs ++ x ∷ []) es d.table new h.1 (λ u ne. sym (numbers-other 0 xs x u (λ e. ne (sym e)))) here),
        )

last-of : {X : Type 0} (xs ys : List X) (n : ℕ) (r : Option X) → xs ≡ ys ++ option_to_list r → (IsSome r ↔ (0 < length xs)) → n + 1 ≡ length xs → (x : X) × (xs ≡ ys ++ x ∷ []) × (n ≡ length ys)
last-of xs ys n None e some len = let found = some.1 (omega (arith, len)) in cc found
last-of xs ys n (Some x) e some len =
    let grow = ap length e ∙ length-append ys (x ∷ []) in
    (x, e, omega (arith, grow, len))

-- the tables without the last one
pub untabled : (es fs : List (Vec ℕ Global × Table)) (is : List (Vec ℕ Global × IndexDef)) (t : TableNo) (r : Option (Vec ℕ Global × Table)) → es ≡ fs ++ option_to_list r → (IsSome r ↔ (0 < length es)) →
    t.0 + 1 ≡ length (map table_def es) → numbers_from 0 (map named_index is) t ≡ [] → IsLawful (contents_of es is) × AreListed (map named_index is) 0 es → IsLawful (contents_of fs is) × AreListed (map named_index is) 0 fs
untabled es fs is t r e some len none h =
    let (last, parts, place) = last-of es fs t.0 r e some (len ∙ length-map es table_def) in
    let defs = ap (map table_def) parts ∙ map-append table_def fs (last ∷ []) in
    let past = ap (λ n. numbers_from 0 (map named_index is) (record { 0 = n })) (length-map fs table_def ∙ sym place) ∙ none in (
      lawful-untabled (map table_def fs) (table_def last) (map named_index is) past (subst (λ (l : List TableDef). IsLawful (record { tables = l; indexes = map named_index is })) defs h.0),
      listed-cut (map named_index is) 0 fs (last ∷ []) (subst (AreListed (map named_index is) 0) parts h.1),
    )

module _ (es : List (Vec ℕ Global × Table)) (is js : List (Vec ℕ Global × IndexDef)) (k : Vec ℕ Global) (d : IndexDef) (parts : is ≡ js ++ (k, d) ∷ []) where
  cut-indexes : map named_index is ≡ map named_index js ++ named_index (k, d) ∷ []
  cut-indexes = ap (map named_index) parts ∙ map-append named_index js ((k, d) ∷ [])

  -- the last index is of a table that is there
  pub last-within : IsLawful (contents_of es is) → d.table.0 < length es
  last-within h =
      let all = subst (λ (l : List NamedIndex). IsLawful (record { tables = map table_def es; indexes = l })) cut-indexes h in
      let xs = map named_index js in
      let len = length-append xs (named_index (k, d) ∷ []) in
      let was = (all.indexes (length xs) no_index (omega (arith, len))).table in
      let at = ap (λ (x : NamedIndex). x.index.table.0) (get_or-append_seam xs (named_index (k, d)) [] no_index) in
      let size = length-map es table_def in
      omega (arith, was, at, size)

  module _ (t : TableNo) (of : t ≡ d.table) (old new : Table) (at : slice_get (values_of es) t.0 ≡ Some old) (same : (n : List ℕ) → keyed n new ≡ keyed n old) where
    -- the contents without the last index
    pub index-taken : (n : ℕ) → n + 1 ≡ length (map named_index is) → contents_of (set_value_at es t.0 new) js ≡ record { tables = map table_def es; indexes = take n (map named_index is) }
    index-taken n last =
        let xs = map named_index js in
        let len = ap length cut-indexes ∙ length-append xs (named_index (k, d) ∷ []) in
        let place : n ≡ length xs = omega (arith, len, last) in
        ap (λ (l : List TableDef). record { tables = l; indexes = map named_index js })
        (defs-set es t.0 new ∙ ap (set (map table_def es) t.0) (same _ ∙ sym (def-of_value es t.0 old at)) ∙ set-get_or (map table_def es) t.0 no_table)
        ∙ ap (λ (l : List NamedIndex). record { tables = map table_def es; indexes = l })
        (sym (take-append_seam xs (named_index (k, d) ∷ [])) ∙ ap (λ m. take m (xs ++ named_index (k, d) ∷ [])) (sym place) ∙ ap (take n) (sym cut-indexes))

    pub taken-kept : new.indexes.items ≡ take (length old.indexes.items - 1) old.indexes.items → IsLawful (contents_of es is) × AreListed (map named_index is) 0 es →
        IsLawful (contents_of (set_value_at es t.0 new) js) × AreListed (map named_index js) 0 (set_value_at es t.0 new)
    taken-kept list h =
        let xs = map named_index js in
        let x = named_index (k, d) in
        let all = subst (λ (l : List NamedIndex). IsLawful (record { tables = map table_def es; indexes = l })) cut-indexes h.0 in
        let listed = subst (λ l. AreListed l 0 es) cut-indexes h.1 in
        let held = listed-old (xs ++ x ∷ []) es t old listed at ∙ numbers-same 0 xs x t (ap (λ (u : TableNo). u.0) (sym of)) in
        let number : IndexNo = record { 0 = 0 + length xs } in
        let len = ap length held ∙ length-append (numbers_from 0 xs t) (number ∷ []) in
        let less : length old.indexes.items - 1 ≡ length (numbers_from 0 xs t) = omega (arith, len) in
        let here = list ∙ ap (λ m. take m old.indexes.items) less ∙ ap (take (length (numbers_from 0 xs t))) held ∙ take-append_seam (numbers_from 0 xs t) (number ∷ []) in
        let tables =
        defs-set es t.0 new ∙ ap (set (map table_def es) t.0) (same _ ∙ sym (def-of_value es t.0 old at)) ∙ set-get_or (map table_def es) t.0 no_table
        in (
          subst (λ (l : List TableDef). IsLawful (record { tables = l; indexes = xs })) (sym tables) (lawful-unindexed (map table_def es) xs x all),
          relisted (xs ++ x ∷ []) xs es t new listed (λ u ne. numbers-other 0 xs x u (λ e. ne (sym e ∙ ap (λ (v : TableNo). v.0) (sym of)))) here,
        )

-- What keeps contents lawful: another definition of a table, one more table or index, and one less.
use Rattle.std.proofs.Common.{◌≡◌, ◌<◌, ◌≤◌, ◌+◌, ◌*◌, ◌++◌, ◌∷◌, [], ◌∙◌, inl, inr, ℕ, List, All, Contains, length, map, zero, suc, get_or, set, refl, sym, ap, subst, arith}
use Rattle.std.proofs.Math.Seq.{map-set_same}
use Rattle.std.proofs.lemmas.Bool.{cases_eq}
use Rattle.std.proofs.lemmas.List.{get_or_append_left, length-append, length-set, map-append}
use Rattle.std.proofs.lemmas.List.Elements.{All-push, All-set, Contains-append_cases, Contains-append_left, Contains-append_right}
use Rattle.pg_base.specs.declared.limits.TheConstants.{MOST_INDEXES, MOST_TABLES}
use Rattle.pg_base.specs.declared.numbers.TableNo.{TableNo}
use Rattle.pg_base.specs.Names.{AreDistinct}
use Rattle.opfamily.specs.pg_value_columns_Column.{Column}
use Rattle.catalog.specs.Contents.{Contents, NamedIndex, TableDef, IsIndexOf, IsLawful, IsLawfulTable, IsTable, index_names, indexes_of, no_table, numbers_from, table_at, table_names, with_definition, with_index, with_table}
use Rattle.catalog.specs.Indexes.{Index, IsLawfulIndex}
use Rattle.catalog.specs.Tables.{IsUnused}
use Rattle.catalog.proofs.NameLaws.{distinct-push}
use Rattle.catalog.proofs.NumberLemmas.{few_in_all, no_numbers, numbers-other, numbers-past, numbers-same}

abbrev columns_in : TableDef → List Column
columns_in d = d.columns

-- an index keeps its table where the columns stay
moved : (c e : Contents) (x : NamedIndex) → IsTable e x.index.table → (table_at c x.index.table).columns ≡ (table_at e x.index.table).columns → IsIndexOf c x → IsIndexOf e x
moved c e x there same h = record { name = h.name; table = there; index = subst (λ columns. IsLawfulIndex columns x.index) same h.index }

-- an index needs its table alone
again : (ds : List TableDef) (xs ys : List NamedIndex) (x : NamedIndex) → IsIndexOf (record { tables = ds; indexes = xs }) x → IsIndexOf (record { tables = ds; indexes = ys }) x
again ds xs ys x h = record { name = h.name; table = h.table; index = h.index }

single : {X : Type 0} (x y : X) → Contains (x ∷ []) y → x ≡ y
single x y (zero, lt, e) = e
single x y (suc n, lt, e) = absurd (omega (arith, lt))

columns-set : (ds : List TableDef) (i j : ℕ) (d : TableDef) → i < length ds → d.columns ≡ (get_or ds i no_table).columns → (get_or ds j no_table).columns ≡ (get_or (set ds i d) j no_table).columns
columns-set [] i j d lt same = absurd (omega (arith, lt))
columns-set (x ∷ ds) zero zero d lt same = sym same
columns-set (x ∷ ds) zero (suc j) d lt same = refl
columns-set (x ∷ ds) (suc i) zero d lt same = refl
columns-set (x ∷ ds) (suc i) (suc j) d lt same = columns-set ds i j d (omega (arith, lt)) same

-- another lawful definition of a table, with its name and columns
pub lawful-defined : (c : Contents) (t : TableNo) (d : TableDef) → IsTable c t → d.name ≡ (table_at c t).name → d.columns ≡ (table_at c t).columns → IsLawfulTable d → IsLawful c → IsLawful (with_definition c t d)
lawful-defined c t d lt named same new h =
    let names = map-set_same (λ (x : TableDef). x.name) c.tables t.0 d no_table named in
    let len = length-set c.tables t.0 d in
    record {
      tables = All-set IsLawfulTable c.tables t.0 d new h.tables;
      few = omega (arith, len, h.few);
      indexes = λ i x within.
          let was = h.indexes i x within in
          moved c (with_definition c t d) (get_or c.indexes i x) (omega (arith, len, was.table)) (columns-set c.tables t.0 (get_or c.indexes i x).index.table.0 d lt same) was;
      room = h.room;
      tables_differ = subst AreDistinct (sym names) h.tables_differ;
      indexes_differ = h.indexes_differ;
      apart = λ name among. h.apart name (subst (λ l. Contains l name) names among);
    }

-- one more lawful table with an unused name
pub lawful-table : (c : Contents) (d : TableDef) → IsLawfulTable d → IsUnused c d.name → length c.tables < MOST_TABLES → IsLawful c → IsLawful (with_table c d)
lawful-table c d new free room h =
    let len = length-append c.tables (d ∷ []) in
    let names = map-append (λ (x : TableDef). x.name) c.tables (d ∷ []) in
    record {
      tables = All-push IsLawfulTable c.tables d h.tables new;
      few = omega (arith, len, room);
      indexes = λ i x within.
          let was = h.indexes i x within in
          let there : (get_or c.indexes i x).index.table.0 < length (c.tables ++ d ∷ []) = omega (arith, len, was.table) in
          moved c (with_table c d) (get_or c.indexes i x) there (ap columns_in (sym (get_or_append_left c.tables (d ∷ []) no_table _ was.table))) was;
      room = h.room;
      tables_differ = subst AreDistinct (sym names) (distinct-push (table_names c) d.name h.tables_differ (λ k. free (Contains-append_left (table_names c) (index_names c) d.name k)));
      indexes_differ = h.indexes_differ;
      apart = λ name among other.
          elim (Contains-append_cases (table_names c) (d.name ∷ []) name (subst (λ l. Contains l name) names among)) [
            | inl k ↦ h.apart name k other
            | inr k ↦ free (Contains-append_right (table_names c) (index_names c) d.name (subst (Contains (index_names c)) (sym (single d.name name k)) other))
          ];
    }

-- the numbers after one more index
more-room : (xs : List NamedIndex) (x : NamedIndex) (t : TableNo) → length (numbers_from 0 xs x.index.table) < MOST_INDEXES → length (numbers_from 0 xs t) ≤ MOST_INDEXES → length (numbers_from 0 (xs ++ x ∷ []) t) ≤ MOST_INDEXES
more-room xs x t few all = elim (cases_eq x.index.table.0 t.0) [
  | inl same ↦
      let at = ap length (numbers-same 0 xs x t same) in
      let len = length-append (numbers_from 0 xs t) (record { 0 = 0 + length xs } ∷ []) in
      let here = ap (λ n. length (numbers_from 0 xs (record { 0 = n }))) same in
      omega (arith, at, len, here, few)
  | inr ne ↦ let at = ap length (numbers-other 0 xs x t ne) in omega (arith, at, all)
]

-- one more lawful index with an unused name, of a table with room
pub lawful-index : (c : Contents) (name : List ℕ) (x : Index) → IsIndexOf c (record { name = name; index = x }) → IsUnused c name → length (indexes_of c x.table) < MOST_INDEXES → IsLawful c → IsLawful (with_index c name x)
lawful-index c name x new free few h =
    let y : NamedIndex = record { name = name; index = x } in
    let names = map-append (λ (z : NamedIndex). z.name) c.indexes (y ∷ []) in
    record {
      tables = h.tables;
      few = h.few;
      indexes = All-push (IsIndexOf (with_index c name x)) c.indexes y (λ i z lt. again c.tables c.indexes (c.indexes ++ y ∷ []) (get_or c.indexes i z) (h.indexes i z lt)) (again c.tables c.indexes (c.indexes ++ y ∷ []) y new);
      room = λ t. more-room c.indexes y t few (h.room t);
      tables_differ = h.tables_differ;
      indexes_differ = subst AreDistinct (sym names) (distinct-push (index_names c) name h.indexes_differ (λ k. free (Contains-append_right (table_names c) (index_names c) name k)));
      apart = λ other among k.
          elim (Contains-append_cases (index_names c) (name ∷ []) other (subst (λ l. Contains l other) names k)) [
            | inl l ↦ h.apart other among l
            | inr l ↦ free (Contains-append_left (table_names c) (index_names c) name (subst (Contains (table_names c)) (sym (single name other l)) among))
          ];
    }

all-front : {X : Type 0} (P : X → Type 0) (xs ys : List X) → All P (xs ++ ys) → All P xs
all-front P xs ys h = λ i d lt. let len = length-append xs ys in subst P (get_or_append_left xs ys d i lt) (h i d (omega (arith, len, lt)))

distinct-front : (xs ys : List (List ℕ)) → AreDistinct (xs ++ ys) → AreDistinct xs
distinct-front xs ys h =
    λ i j d lt within e.
    let len = length-append xs ys in
    h i j d lt (omega (arith, len, within)) (get_or_append_left xs ys d i (omega (arith, lt, within)) ∙ e ∙ sym (get_or_append_left xs ys d j within))

-- one table less, which has no index
pub lawful-untabled : (ds : List TableDef) (d : TableDef) (xs : List NamedIndex) → numbers_from 0 xs (record { 0 = length ds }) ≡ [] → IsLawful (record { tables = ds ++ d ∷ []; indexes = xs }) → IsLawful (record { tables = ds; indexes = xs })
lawful-untabled ds d xs none h =
    let len = length-append ds (d ∷ []) in
    let names = map-append (λ (x : TableDef). x.name) ds (d ∷ []) in
    record {
      tables = all-front IsLawfulTable ds (d ∷ []) h.tables;
      few = omega (arith, len, h.few);
      indexes = λ i x within.
          let was = h.indexes i x within in
          let ne = no_numbers 0 xs (record { 0 = length ds }) none i x within in
          let there : (get_or xs i x).index.table.0 < length ds = omega (arith, len, was.table, ne) in
          moved (record { tables = ds ++ d ∷ []; indexes = xs }) (record { tables = ds; indexes = xs }) (get_or xs i x) there (ap columns_in (get_or_append_left ds (d ∷ []) no_table _ there)) was;
      room = h.room;
      tables_differ = distinct-front (map (λ (x : TableDef). x.name) ds) (d.name ∷ []) (subst AreDistinct names h.tables_differ);
      indexes_differ = h.indexes_differ;
      apart = λ name among. h.apart name (subst (λ l. Contains l name) (sym names) (Contains-append_left (map (λ (x : TableDef). x.name) ds) (d.name ∷ []) name among));
    }

less-room : (xs : List NamedIndex) (x : NamedIndex) (t : TableNo) → length (numbers_from 0 (xs ++ x ∷ []) t) ≤ MOST_INDEXES → length (numbers_from 0 xs t) ≤ MOST_INDEXES
less-room xs x t all = elim (cases_eq x.index.table.0 t.0) [
  | inl same ↦
      let at = ap length (numbers-same 0 xs x t same) in
      let len = length-append (numbers_from 0 xs t) (record { 0 = 0 + length xs } ∷ []) in
      omega (arith, at, len, all)
  | inr ne ↦ let at = ap length (numbers-other 0 xs x t ne) in omega (arith, at, all)
]

-- one index less
pub lawful-unindexed : (ds : List TableDef) (xs : List NamedIndex) (x : NamedIndex) → IsLawful (record { tables = ds; indexes = xs ++ x ∷ [] }) → IsLawful (record { tables = ds; indexes = xs })
lawful-unindexed ds xs x h =
    let names = map-append (λ (y : NamedIndex). y.name) xs (x ∷ []) in
    record {
      tables = h.tables;
      few = h.few;
      indexes = λ i z lt. again ds (xs ++ x ∷ []) xs (get_or xs i z) (all-front (IsIndexOf (record { tables = ds; indexes = xs ++ x ∷ [] })) xs (x ∷ []) h.indexes i z lt);
      room = λ t. less-room xs x t (h.room t);
      tables_differ = h.tables_differ;
      indexes_differ = distinct-front (map (λ (y : NamedIndex). y.name) xs) (x.name ∷ []) (subst AreDistinct names h.indexes_differ);
      apart = λ name among k. h.apart name among (subst (λ l. Contains l name) (sym names) (Contains-append_left (map (λ (y : NamedIndex). y.name) xs) (x.name ∷ []) name k));
    }

-- the table after the last has no indexes
pub none-past : (c : Contents) → IsLawful c → indexes_of c (record { 0 = length c.tables }) ≡ []
none-past c h = numbers-past 0 c.indexes (record { 0 = length c.tables }) (λ i x lt. (h.indexes i x lt).table)

-- there are no more indexes than 8 for each of 64 tables
pub few_indexes : (c : Contents) → IsLawful c → length c.indexes ≤ MOST_INDEXES * MOST_TABLES
few_indexes c h =
    let few = few_in_all MOST_INDEXES (length c.tables) c.indexes h.room (λ i x lt. (h.indexes i x lt).table) in
    omega (arith, few, h.few)

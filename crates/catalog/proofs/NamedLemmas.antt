-- Names that are taken and names that are free, and what is known of a column.
use Rattle.std.proofs.Common.{◌≡◌, ◌<◌, ◌≤◌, ◌+◌, ◌++◌, ◌∷◌, [], ◌∙◌, ℕ, true, false, All, List, Option, Some, None, MatchOption, is_some, length, map, take, get_or, Contains, zero, suc, subst, refl, sym, ap, arith}
use Rattle.std.specs.List.{AllZip}
use Rattle.std.specs.Option.{option_map}
use Rattle.std.proofs.lemmas.List.{get_or-map, length-map, map-append, take_more}
use Rattle.pg_base.specs.Names.{AreDistinct, IsName}
use Rattle.pg_base.specs.declared.limits.TheConstants.{MOST_COLUMNS}
use Rattle.pg_base.specs.declared.numbers.ColNo.{ColNo}
use Rattle.pg_base.specs.declared.numbers.IndexNo.{IndexNo}
use Rattle.pg_base.specs.declared.numbers.TableNo.{TableNo}
use Rattle.opfamily.specs.pg_value_columns_Column.{Column}
use Rattle.catalog.specs.Contents.{Contents, TableDef, IsColumn, IsKnown, IsLawful, IsLawfulTable, IsTable, stats_at, table_at, index_names, new_table, no_index, no_table, table_names, unknown}
use Rattle.catalog.specs.work.Entries.{statistics}
use Rattle.catalog.specs.Indexes.{no_column, type_at}
use Rattle.catalog.specs.Statistics.{IsLawfulStatistics, Statistics}
use Rattle.catalog.specs.work.Tables.{HasIndexName, HasTableName, IsFree, IsFreeIndex}
use Rattle.catalog.specs.declared.statistics.ColumnStats.{ColumnStats}
use Rattle.catalog.proofs.EntryLemmas.{name-among}
use Rattle.pg_base.proofs.ListLemmas.{zip-length as as_many}
use Rattle.pg_base.proofs.ListLemmas.{zip-at}

module _ (c : Contents) (name : List ℕ) where
  -- a name that a table has is among the names
  pub taken : (r : Option TableNo) → MatchOption r (IsFree c name) (HasTableName c name) → is_some r ≡ true → Contains (table_names c) name
  taken None m e = cc e
  taken (Some t) m e = name-among (λ (d : TableDef). d.name) c.tables t.0 no_table name m.0 m.1

  pub free : (r : Option TableNo) → MatchOption r (IsFree c name) (HasTableName c name) → is_some r ≡ false → IsFree c name
  free None m e = m
  free (Some t) m e = cc e

  -- a name that an index has is among the names
  pub taken-index : (r : Option IndexNo) → MatchOption r (IsFreeIndex c name) (HasIndexName c name) → is_some r ≡ true → Contains (index_names c) name
  taken-index None m e = cc e
  taken-index (Some i) m e = name-among (λ x. x.name) c.indexes i.0 no_index name m.0 m.1

  pub some-index : (r : Option IndexNo) → MatchOption r (IsFreeIndex c name) (HasIndexName c name) → Contains (index_names c) name → is_some r ≡ true
  some-index None m h = absurd (m h)
  some-index (Some i) m h = refl

-- something is kept for each column
pub stats-within : (d : TableDef) (xs : List (Option ColumnStats)) (k : ℕ) → map (option_map statistics) xs ≡ d.stats → IsLawfulTable d → k < length d.columns → k < length xs
stats-within d xs k same h lt =
    let many = as_many IsKnown d.columns d.stats h.stats in
    let len = sym (length-map xs (option_map statistics)) ∙ ap length same in
    omega (arith, many, len, lt)

-- what is kept for a column
pub stats-at : (d : TableDef) (xs : List (Option ColumnStats)) (k : ℕ) (o : Option ColumnStats) → map (option_map statistics) xs ≡ d.stats → k < length xs → o ≡ get_or xs k o → option_map statistics o ≡ get_or d.stats k None
stats-at d xs k o same lt at = ap (option_map statistics) at ∙ sym (get_or-map (option_map statistics) xs k o None lt) ∙ ap (λ l. get_or l k None) same

abbrev nothing_known : Column → Option Statistics
nothing_known column = None

-- nothing is known of one more column
pub unknown-more : (xs : List (Option ColumnStats)) (columns : List Column) (i : ℕ) (d : Column) → i < length columns → map (option_map statistics) xs ≡ unknown (take i columns) →
    map (option_map statistics) (xs ++ None ∷ []) ≡ unknown (take (i + 1) columns)
unknown-more xs columns i d lt h =
    map-append (option_map statistics) xs (None ∷ []) ∙ ap (λ l. l ++ None ∷ []) h ∙ sym (map-append nothing_known (take i columns) (get_or columns i d ∷ [])) ∙ ap unknown (sym (take_more columns i d lt))

none-known : (columns : List Column) → AllZip IsKnown columns (unknown columns)
none-known [] = tt
none-known (c ∷ columns) = (tt, none-known columns)

-- a table as it is made is lawful
pub new-lawful : (name : List ℕ) (names : List (List ℕ)) (columns : List Column) → IsName name → All IsName names → AreDistinct names → length names ≡ length columns → 0 < length columns → length columns ≤ MOST_COLUMNS → IsLawfulTable (new_table name names columns)
new-lawful name names columns word words distinct width some few = record { name = word; names = words; distinct = distinct; width = width; some = some; few = few; sizes = tt; stats = none-known columns }

-- what lawful contents know of a column is lawful
pub known-lawful : (c : Contents) (t : TableNo) (x : ColNo) (s : Statistics) → IsLawful c → IsTable c t → IsColumn c t x → stats_at c t x ≡ Some s → IsLawfulStatistics (type_at (table_at c t).columns x) s
known-lawful c t x s h lt within e =
    let d = table_at c t in
    let at = zip-at IsKnown d.columns d.stats x.0 no_column None (h.tables t.0 no_table lt).stats within in
    subst (IsKnown (get_or d.columns x.0 no_column)) e at

-- The values of a world at a tuple are NULL or of their columns' types.
use Rattle.std.proofs.Common.{◌≡◌, ℕ, zero, suc, ◌<◌, ◌≤◌, List, [], ◌∷◌, length, refl, sym, subst, arith, ⊎_elim, All}
use Rattle.std.specs.Prelude.{slice_index_or}
use Rattle.std.specs.List.{AllZip}
use Rattle.std.proofs.lemmas.Bool.{cases_lt}
use Rattle.pg_base.specs.declared.numbers.TableNo.{TableNo}
use Rattle.pg_value.specs.declared.columns.Column.{Column}
use Rattle.pg_value.specs.declared.value.SqlType.{SqlType}
use Rattle.pg_value.specs.declared.value.Value.{Value}
use Rattle.pg_value.specs.declared.value.Value.TheVariants.{Null, Int, Bool as Flag, Text as String}
use Rattle.pg_value.specs.Types.{IsOfType}
use Rattle.sql_query.specs.catalog_Contents.{TableDef, no_table, table_at}
use Rattle.sql_query.specs.catalog_Range.{relation_at, type_in}
use Rattle.heap.specs.Stored.{Stored, Values, IsColumnValue}
use Rattle.eq_classes.specs.work.Holding.{Fits}
use Rattle.sql_query.specs.Queries.{Query}
use Rattle.sql_query.specs.Tuples.{Tuple, row_of, rows_of_relation, value_at}
use Rattle.sql_query.specs.catalog_Indexes.{no_column}
use Rattle.sql_query.specs.Worlds.{World, Holds, IsWorld, nothing_stored, stored_at}
use Rattle.heap.proofs.FitsLemmas.{value_fits, fits-at}

null_fits : (t : SqlType) → IsOfType t Null
null_fits t = tt

no_values : (cs : List Column) (k : ℕ) (d : Column) → IsOfType (slice_index_or cs k d).typed (slice_index_or {A = Value} [] k Null)
no_values cs k d = null_fits (slice_index_or cs k d).typed

-- a row of a list, or none
past_end : (rows : List Values) (row : ℕ) → length rows ≤ row → slice_index_or rows row [] ≡ []
past_end [] row le = refl
past_end (r ∷ rs) zero le = absurd (omega arith)
past_end (r ∷ rs) (suc row) le = past_end rs row (omega arith)

row_or_none : (P : Values → Type 0) (rows : List Values) → All P rows → P [] → (row : ℕ) → P (slice_index_or rows row [])
row_or_none P rows all none row = ⊎_elim
    (λ (lt : row < length rows). all row [] lt)
    (λ (le : length rows ≤ row). subst P (sym (past_end rows row le)) none)
    (cases_lt row (length rows))

-- what is stored of a table, also of none, has its columns and is lawful
record Keeps (d : TableDef) (s : Stored) : Type 0 where
  columns : s.columns ≡ d.columns
  rows : All (λ vs. AllZip IsColumnValue s.columns vs) s.rows

kept_at : (ds : List TableDef) (ss : List Stored) → AllZip Holds ds ss → (n : ℕ) → Keeps (slice_index_or ds n no_table) (slice_index_or ss n nothing_stored)
kept_at [] [] h n = record { columns = refl; rows = λ k d lt. absurd (omega (arith, lt)) }
kept_at [] (s ∷ ss) h n = absurd h
kept_at (d ∷ ds) [] h n = absurd h
kept_at (d ∷ ds) (s ∷ ss) h zero = record { columns = h.0.columns; rows = h.0.lawful.each }
kept_at (d ∷ ds) (s ∷ ss) h (suc n) = kept_at ds ss h.1 n

pub values_fit : (w : World) (q : Query) (t : Tuple) → IsWorld w → Fits (type_in w.contents q.range) (value_at w q t)
values_fit w q t is x =
    let n : TableNo = (relation_at q.range x.rel).0 in
    let kept : Keeps (table_at w.contents n) (stored_at w n) = kept_at w.contents.tables w.stored is n.0 in
    subst (λ (cs : List Column). IsOfType (slice_index_or cs x.col.0 no_column).typed (value_at w q t x)) kept.columns
    (row_or_none (λ (vs : Values). IsOfType (slice_index_or (stored_at w n).columns x.col.0 no_column).typed (slice_index_or vs x.col.0 Null))
    (rows_of_relation w q x.rel)
    (λ k d lt. fits-at (stored_at w n).columns (slice_index_or (rows_of_relation w q x.rel) k d) (kept.rows k d lt) x.col.0 no_column)
    (no_values (stored_at w n).columns x.col.0 no_column) (row_of t x.rel.0))

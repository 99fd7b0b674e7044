-- The reading of a table, list by list.
use Rattle.std.proofs.Common.{◌≡◌, ℕ, List, [], ◌∷◌, map, refl}
use Rattle.pg_value.specs.declared.columns.Column.{Column}
use Rattle.sql_lex.specs.declared.tokens.Token.{Token}
use Rattle.ddl_reader.specs.declared.columns.ColumnDef.{ColumnDef}
use Rattle.ddl_reader.specs.Columns.{BoundColumn}
use Rattle.ddl_reader.specs.work.AsMeant.{seen}
use Rattle.ddl_reader.specs.Tables.{table, table_reading}

-- the name, the column and the place of the name
abbrev pub name_of : ColumnDef → List ℕ
name_of d = d.name.bytes

abbrev pub column_of : ColumnDef → Column
column_of d = d.column

abbrev pub place_of : ColumnDef → ℕ
place_of d = d.name.token.start

module _ (A : Type 0) (f : BoundColumn → A) (g : ColumnDef → A) (same : (d : ColumnDef) → f (seen d) ≡ g d) where
  all-seen : (ds : List ColumnDef) → map f (map seen ds) ≡ map g ds
  all-seen [] = refl
  all-seen (d ∷ ds) = rw (same d, all-seen ds) refl

pub made-reading : (name : List ℕ) (token : Token) (ds : List ColumnDef) (names : List (List ℕ)) (columns : List Column) (at : List ℕ) →
    names ≡ map name_of ds → columns ≡ map column_of ds → at ≡ token.start ∷ map place_of ds →
    record { definition = table name names columns; at = at } ≡ table_reading name token (map seen ds)
made-reading name token ds names columns at ns cs ps =
    rw (ns, cs, ps, all-seen _ (λ b. b.name) name_of (λ d. refl) ds, all-seen _ (λ b. b.column) column_of (λ d. refl) ds, all-seen _ (λ b. b.name_at.start) place_of (λ d. refl) ds) refl

-- Working words beside those of `Analysed`.
use Rattle.std.specs.Prelude.{◌≡◌, ◌<◌, ◌⊎◌, ℕ, true, List, length, take, All, slice_index_or}
use Rattle.std.specs.List.{AllZip}
use Rattle.opfamily.specs.pg_value_columns_Column.{Column}
use Rattle.catalog.specs.declared.fault.CatalogFault.{CatalogFault}
use Rattle.catalog.specs.declared.fault.CatalogFault.TheVariants.{BadNumber}
use Rattle.catalog.specs.declared.statistics.TableStats.{TableStats}
use Rattle.catalog.specs.Statistics.{Statistics, AreAllowed, AreValuesOf, IsFirstRefused, is_count}
use Rattle.catalog.specs.Tables.{IsSizeRefusal}

-- for each column what is known of it, with values of its type
abbrev pub FitColumns : List Column → List Statistics → Type 0
FitColumns columns ss = AllZip (λ (c : Column) (s : Statistics). AreValuesOf c.typed s) columns ss

-- nothing of it is refused
pub record IsAllowedTable (s : TableStats) : Type 0 where
  pub rows : is_count s.rows ≡ true
  pub pages : is_count s.pages ≡ true
  pub columns : All AreAllowed s.columns

-- the statistics at a place, of which something is refused, where nothing of those before is
pub record IsColumnRefusal (ss : List Statistics) (place : ℕ) : Type 0 where
  pub column : ℕ
  pub within : column < length ss
  pub before : All AreAllowed (take column ss)
  pub refused : (d : Statistics) → IsFirstRefused (slice_index_or ss column d) place

-- why it is refused: the rows or the pages are no count, else what is refused first of the first column of which something is
abbrev pub IsTableRefusal : TableStats → CatalogFault → Type 0
IsTableRefusal s (BadNumber place) = IsSizeRefusal s.rows s.pages (BadNumber place) ⊎ ((is_count s.rows ≡ true) × ((is_count s.pages ≡ true) × IsColumnRefusal s.columns place))
IsTableRefusal s _ = ⊥

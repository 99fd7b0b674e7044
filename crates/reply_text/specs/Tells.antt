-- What a fault's text names beside its kind. Own.
use Rattle.std.specs.Prelude.{◌<◌, ◌≡◌}
use Rattle.pg_base.specs.declared.faults.Code.{Code}
use Rattle.pg_base.specs.declared.faults.Code.TheVariants.{S2, S3, S4, S5, S6, S7, S8, S9, S11, S12, S13, S14, S15, S18}
use Rattle.pg_base.specs.declared.faults.Limit.TheVariants.{Rows, Text}
use Rattle.pg_base.specs.declared.faults.Fault.{Fault}
use Rattle.pg_base.specs.declared.numbers.ColNo.{ColNo}
use Rattle.catalog.specs.Contents.{Contents, IsTable, IsColumn}
use Rattle.reply_text.specs.declared.tells.Place.{Place}
use Rattle.reply_text.specs.declared.tells.Place.TheVariants.{Nowhere, Record, Field}
use Rattle.reply_text.specs.declared.tells.Naming.{Naming}
use Rattle.reply_text.specs.declared.tells.Naming.TheVariants.{Nothing, Small}

-- the word in error ends the text in small letters, of which an operator has none
abbrev pub naming_of : Code → Naming
naming_of S2 = Small
naming_of S3 = Small
naming_of S4 = Small
naming_of S5 = Small
naming_of S6 = Small
naming_of S7 = Small
naming_of S8 = Small
naming_of S9 = Small
naming_of S18 = Small
naming_of _ = Nothing

-- what of COPY data is named: a record, or a field of a record
abbrev pub data_place_of : Code → Place
data_place_of S11 = Field
data_place_of S12 = Field
data_place_of S13 = Record
data_place_of S14 = Field
data_place_of (S15 Rows) = Record
data_place_of (S15 Text) = Field
data_place_of _ = Nowhere

-- the column in error
abbrev pub column_at_fault : Fault → ColNo
column_at_fault f = record { 0 = f.col }

-- where a field of COPY data is in error, the catalogue has its table and column
abbrev pub IsFieldOf : Contents → Fault → Type 0
IsFieldOf c f = data_place_of f.code ≡ Field → 0 < f.rec → IsTable c f.table × IsColumn c f.table (column_at_fault f)

-- What a heap stands for, and which data are lawful. Own.
use Rattle.std.specs.Prelude.{◌≡◌, ◌≢◌, ◌≤◌, List, false, length}
use Rattle.std.specs.List.{All, AllZip}
use Rattle.pg_base.specs.declared.limits.TheConstants.{MOST_ROWS, MOST_TEXT_BYTES}
use Rattle.pg_value.specs.Fields.{null_text}
use Rattle.pg_value.specs.Types.{IsOfType}
use Rattle.pg_value.specs.declared.columns.Column.{Column}
use Rattle.pg_value.specs.declared.value.Value.{Value}
use Rattle.pg_value.specs.declared.value.Value.TheVariants.{Null, Text as String}

-- the values of a row, one for each column
abbrev pub Values : Type 0
Values = List Value

-- a table's columns and its rows in order of loading
pub record Stored : Type 0 where
  pub columns : List Column
  pub rows : List Values

-- a value that a column may hold: NULL where it takes NULL, else one of its type; a text keeps its limit and is not `\N`
abbrev pub IsColumnValue : Column → Value → Type 0
IsColumnValue c Null = c.not_null ≡ false
IsColumnValue c (String bs) = IsOfType c.typed (String bs) × (length bs ≤ MOST_TEXT_BYTES) × (bs ≢ null_text)
IsColumnValue c v = IsOfType c.typed v

-- one value for each column
abbrev pub IsRowOf : List Column → Values → Type 0
IsRowOf columns row = AllZip IsColumnValue columns row

-- lawful data: no more rows than a table may have, each of values that the columns may hold
pub record IsLawfulData (h : Stored) : Type 0 where
  pub few : length h.rows ≤ MOST_ROWS
  pub each : All (IsRowOf h.columns) h.rows

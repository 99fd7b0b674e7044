-- Working words beside those of `Stored`.
use Rattle.std.specs.Prelude.{ℕ, ◌≡◌, ◌*◌, List, length}
use Rattle.pg_value.specs.declared.columns.Column.{Column}
use Rattle.heap.specs.work.Tuples.{runs_of}
use Rattle.heap.specs.Stored.{Values, Stored}

-- some columns, and a number of rows of one value for each, one row after another in a flat list
abbrev pub laid_out : List Column → ℕ → Values → Stored
laid_out columns count values = record { columns = columns; rows = runs_of (length columns) count values }

-- a flat list has just the values of so many rows
abbrev pub IsWhole : List Column → ℕ → Values → Type 0
IsWhole columns count values = length values ≡ count * length columns

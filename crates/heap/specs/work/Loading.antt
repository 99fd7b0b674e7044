-- Working words beside those of `Loading`.
use Rattle.std.specs.Prelude.{ℕ, ◌≡◌, ◌<◌, List, length, take, drop, Err, ◌≢◌}
use Rattle.std.specs.declared.result.Result.{Result}
use Rattle.pg_value.specs.declared.columns.Column.{Column}
use Rattle.heap.specs.declared.fault.CopyFault.{CopyFault}
use Rattle.heap.specs.declared.fault.CopyFault.TheVariants.{Range, Invalid, IsNull, TooLong, Memory}
use Rattle.heap.specs.Stored.{Values}
use Rattle.heap.specs.work.Tuples.{runs_of}

-- where a fault names a column, it is one of these
abbrev pub NamesColumnOf : List Column → CopyFault → Type 0
NamesColumnOf columns (Range rec col) = col.0 < length columns
NamesColumnOf columns (Invalid rec col) = col.0 < length columns
NamesColumnOf columns (IsNull rec col) = col.0 < length columns
NamesColumnOf columns (TooLong rec col) = col.0 < length columns
NamesColumnOf columns _ = Unit {0}

-- a list at whose end values were put: it begins with what stood there
abbrev pub BeginsWith : Values → Values → Type 0
BeginsWith before after = take (length before) after ≡ before

-- the values that were put at the end of a list
abbrev pub appended : Values → Values → Values
appended before after = drop (length before) after

-- a number of rows whose values were put at the end of a list, one row after another
abbrev pub appended_rows : List Column → ℕ → Values → Values → List Values
appended_rows columns n before after = runs_of (length columns) n (appended before after)

-- a fault, unless memory ran out, is that of a reading
abbrev pub IsFaultOf : {A : Type 0} → Result A CopyFault → CopyFault → Type 0
IsFaultOf reading e = e ≢ Memory → reading ≡ Err e

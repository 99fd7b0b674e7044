-- What LIMIT and OFFSET ask for, or their first fault (PostgreSQL manual, chapter Queries, LIMIT and OFFSET; codes: appendix
-- Error Codes).
use Rattle.std.specs.Prelude.{ℕ, nat_lt, cond, Option, Some, None, Result, Ok, Err}
use Rattle.std.specs.Str.Parse.{digits_value}
use Rattle.pg_base.specs.declared.faults.Code.TheVariants.{S11}
use Rattle.pg_base.specs.declared.faults.Fault.{Fault}
use Rattle.pg_value.specs.declared.value.SqlType.TheVariants as types
use Rattle.pg_value.specs.Types.{limit}
use Rattle.sql_grammar.specs.Terminals.{Said}
use Rattle.sql_grammar.specs.Faults.{fault_at}
use Rattle.sql_grammar.specs.Syntax.{LimitTree, no_limit, most_rows, Offset, no_offset, skipped_rows, WindowTree, window}
use Rattle.sql_query.specs.declared.window.Window.{Window}
use Rattle.expr_reader.specs.Conditions.{next}

-- a number of rows is one of an int8, and a greater one is an error where it stands
abbrev pub rows_written : Said → Result ℕ Fault
rows_written n = cond (nat_lt (digits_value 10 n.value) (limit types.Int8)) (Ok (digits_value 10 n.value)) (Err (fault_at S11 n.token))

-- the number of rows that are shown at most, where one is written
abbrev pub most_of : LimitTree → Result (Option ℕ) Fault
most_of no_limit = Ok None
most_of (most_rows _ _ n) = next (rows_written n) (λ rows. Ok (Some rows))

-- the number of rows that are passed over, where one is written
abbrev pub skipped_of : Offset → Result (Option ℕ) Fault
skipped_of no_offset = Ok None
skipped_of (skipped_rows _ _ n) = next (rows_written n) (λ rows. Ok (Some rows))

-- the window of a limit and an offset: there is none where neither is written, and without an OFFSET no row is passed over
abbrev pub window_by : Option ℕ → Option ℕ → Option Window
window_by most (Some skipped) = Some (record { limit = most; offset = skipped })
window_by (Some most) None = Some (record { limit = Some most; offset = 0 })
window_by None None = None

-- the window that is written: LIMIT first, then OFFSET
abbrev pub window_of : WindowTree → Result (Option Window) Fault
window_of (window l o) = next (most_of l) (λ most. next (skipped_of o) (λ skipped. Ok (window_by most skipped)))

-- Working words beside those of `Written`.
use Rattle.std.specs.Prelude.{List, [], ◌∷◌, Some, None}
use Rattle.sql_grammar.specs.Syntax.{Col, bare, qualified, Output, Argument, all_rows, of_col, GroupedItem, plain_item, call, GroupBy, no_group_by, group_by, Ordering, ordering, OrderBy, no_order, order_by}
use Rattle.expr_reader.specs.declared.cursor.Spelled.{Spelled}
use Rattle.expr_reader.specs.Lists.{further_parts}
use Rattle.expr_reader.specs.Reading.{spelled}
use Rattle.expr_reader.specs.Sorts.{is_descending, has_nulls_first}
use Rattle.query_reader.specs.Written.{item_of}
use Rattle.group_reader.specs.declared.written.Column.{Column}
use Rattle.group_reader.specs.declared.written.Listed.{Listed}
use Rattle.group_reader.specs.declared.written.Listed.TheVariants.{Columns, OverRows, OverColumn}
use Rattle.group_reader.specs.declared.written.Sorting.{Sorting}
use Rattle.group_reader.specs.Written.{word_of_output}

-- a column
abbrev pub column_written : Col → Column
column_written (bare n) = record { qualifier = None; name = spelled n }
column_written (qualified q _ n) = record { qualifier = Some (spelled q); name = spelled n }

-- an item that is no call
abbrev pub columns_listed : Output → Listed
columns_listed o = Columns (item_of o) (word_of_output o)

-- a call of this name
abbrev pub called_over : Spelled → Argument → Listed
called_over name (all_rows _) = OverRows name
called_over name (of_col c) = OverColumn name (column_written c)

-- an item
abbrev pub listed_of : GroupedItem → Listed
listed_of (plain_item o) = columns_listed o
listed_of (call n _ a _) = called_over (spelled n) a

-- the columns of GROUP BY
abbrev pub columns_written : GroupBy → List Column
columns_written no_group_by = []
columns_written (group_by _ _ c cs) = column_written c ∷ further_parts column_written cs

-- an item of ORDER BY
abbrev pub sorting_of : Ordering → Sorting
sorting_of (ordering c d z) = record { column = column_written c; descending = is_descending d; nulls_first = has_nulls_first (is_descending d) z }

-- the items of ORDER BY
abbrev pub sorts_written : OrderBy → List Sorting
sorts_written no_order = []
sorts_written (order_by _ _ o os) = sorting_of o ∷ further_parts sorting_of os

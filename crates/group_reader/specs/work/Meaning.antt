-- What the lists of a grouped SELECT mean as they are written, part by part (PostgreSQL manual, chapters Value Expressions,
-- Column References, and Queries, Sorting Rows; Aggregate Functions).
use Rattle.std.specs.Prelude.{Bool, true, false, List, [], ◌∷◌, ◌++◌, map, Option, Some, None, Result, Ok, Err}
use Rattle.pg_base.specs.declared.faults.Code.TheVariants.{S9}
use Rattle.pg_base.specs.declared.faults.Fault.{Fault}
use Rattle.pg_value.specs.declared.value.SqlType.{SqlType}
use Rattle.pg_expr.specs.declared.operand.ColRef.{ColRef}
use Rattle.eq_classes.specs.declared.order.OrderItem.{OrderItem}
use Rattle.sql_lex.specs.declared.tokens.Token.{Token}
use Rattle.sql_grammar.specs.Faults.{fault_at}
use Rattle.expr_reader.specs.declared.cursor.Spelled.{Spelled}
use Rattle.expr_reader.specs.Lists.{bound_each}
use Rattle.expr_reader.specs.Conditions.{next, the_column}
use Rattle.expr_reader.specs.Scope.{Scope, look_up}
use Rattle.sql_query.specs.declared.grouped.Item.{Item}
use Rattle.query_reader.specs.declared.written.Item.{Item as Shown}
use Rattle.query_reader.specs.Binding.{item_columns}
use Rattle.query_reader.specs.Order.{first_among, shown_of_name}
use Rattle.group_reader.specs.declared.parts.Part.{Part}
use Rattle.group_reader.specs.declared.parts.Part.TheVariants as parts
use Rattle.group_reader.specs.declared.written.Column.{Column}
use Rattle.group_reader.specs.declared.written.Listed.{Listed}
use Rattle.group_reader.specs.declared.written.Listed.TheVariants.{Columns, OverRows, OverColumn}
use Rattle.group_reader.specs.declared.written.Sorting.{Sorting}
use Rattle.group_reader.specs.Binding.{BoundLists, all_grouped, over_column, over_rows, shown_columns}

-- the column of a name, under an alias where one is given
abbrev pub column_by : Scope → Option Spelled → Spelled → Result ColRef Fault
column_by scope None n = the_column (look_up scope None n.bytes) n.token n.token
column_by scope (Some q) n = the_column (look_up scope (Some q.bytes) n.bytes) q.token n.token

-- what a column means as it is written in GROUP BY or in a call
abbrev pub column_meant : Scope → Column → Result ColRef Fault
column_meant scope c = column_by scope c.qualifier c.name

-- a call, or the fault of its name
abbrev pub known : Token → Option Item → Result Part Fault
known n None = Err (fault_at S9 n)
known n (Some item) = Ok (parts.Called item)

-- a column that is shown, with the word of the error where it is not grouped
abbrev pub shown_at : Token → ColRef → Part
shown_at word x = parts.Shown x word

-- columns that are shown, each an error at this word where it is not grouped
abbrev pub columns_said : Scope → Shown → Token → Result (List Part) Fault
columns_said scope item word = next (item_columns scope item) (λ xs. Ok (map (shown_at word) xs))

-- the columns of one part alone
abbrev pub part_alone : Part → Result (List Part) Fault
part_alone p = Ok (p ∷ [])

-- one after the other: the first fault wins
abbrev pub then_parts : Result (List Part) Fault → Result (List Part) Fault → Result (List Part) Fault
then_parts (Ok ps) (Ok qs) = Ok (ps ++ qs)
then_parts (Ok ps) (Err fault) = Err fault
then_parts (Err fault) later = Err fault

-- a call over a column
abbrev pub column_call : Scope → (ColRef → SqlType) → Spelled → Column → Result Part Fault
column_call scope type_of n c = next (column_meant scope c) (λ x. known n.token (over_column n.bytes (type_of x) x))

-- an item of the list
abbrev pub listed_said : Scope → (ColRef → SqlType) → Listed → Result (List Part) Fault
listed_said scope type_of (Columns item word) = columns_said scope item word
listed_said scope type_of (OverRows n) = next (known n.token (over_rows n.bytes)) part_alone
listed_said scope type_of (OverColumn n c) = next (column_call scope type_of n c) part_alone

-- the list
abbrev pub list_said : Scope → (ColRef → SqlType) → List Listed → Result (List Part) Fault
list_said scope type_of [] = Ok []
list_said scope type_of (l ∷ ls) = then_parts (listed_said scope type_of l) (list_said scope type_of ls)

-- the column of an item of ORDER BY: a name alone is sought among the columns that the list shows first
abbrev pub sorting_by : Scope → List ColRef → Option Spelled → Spelled → Result ColRef Fault
sorting_by scope shown None n = the_column (first_among (shown_of_name scope shown n.bytes) (look_up scope None n.bytes)) n.token n.token
sorting_by scope shown (Some q) n = column_by scope (Some q) n

-- what a column means as it is written in ORDER BY, beside the columns that the list shows
abbrev pub sorting_column : Scope → List ColRef → Column → Result ColRef Fault
sorting_column scope shown c = sorting_by scope shown c.qualifier c.name

-- an item of ORDER BY
abbrev pub sorting_said : Scope → List ColRef → Sorting → Result OrderItem Fault
sorting_said scope shown s = next (sorting_column scope shown s.column) (λ x. Ok (record { col = x; descending = s.descending; nulls_first = s.nulls_first }))

-- the last word of an item of ORDER BY
abbrev pub last_word : Sorting → Token
last_word s = s.column.name.token

-- the first of some words
abbrev pub first_of : List Token → Option Token
first_of [] = None
first_of (t ∷ ts) = Some t

-- the columns by which rows are grouped: behind DISTINCT those that the list shows, else these
abbrev pub keys_said : Scope → Bool → List Column → List Part → Result (List ColRef) Fault
keys_said scope true columns ps = Ok (shown_columns ps)
keys_said scope false columns ps = bound_each (column_meant scope) columns

-- all lists: that of what is shown, then ORDER BY, then GROUP BY
abbrev pub lists_said : Scope → (ColRef → SqlType) → List Listed → Bool → List Column → List Sorting → Result BoundLists Fault
lists_said scope type_of listed distinct columns sorts =
    next (list_said scope type_of listed) (λ ps.
    next (bound_each (sorting_said scope (shown_columns ps)) sorts) (λ ordered.
    next (keys_said scope distinct columns ps) (λ keys.
    all_grouped keys ps ordered (map last_word sorts) (record { parts = ps; order = ordered; keys = keys }))))

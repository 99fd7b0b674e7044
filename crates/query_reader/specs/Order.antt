-- What ORDER BY means over the visible columns and the select list (PostgreSQL manual, chapter Queries, Sorting Rows, and
-- SELECT, ORDER BY Clause).
use Rattle.std.specs.Prelude.{ℕ, List, [], ◌∷◌, filter, None, Result, Ok}
use Rattle.std.specs.List.{list_any}
use Rattle.pg_base.specs.declared.faults.Fault.{Fault}
use Rattle.pg_expr.specs.declared.operand.ColRef.{ColRef}
use Rattle.eq_classes.specs.Equality.{is_column}
use Rattle.eq_classes.specs.declared.order.OrderItem.{OrderItem}
use Rattle.sql_grammar.specs.Terminals.{token_of}
use Rattle.sql_grammar.specs.Faults.{bytes_of}
use Rattle.sql_grammar.specs.Syntax.{Col, bare, qualified, Ordering, ordering, OrderBy, no_order, order_by}
use Rattle.expr_reader.specs.Lists.{further_parts, bound_each}
use Rattle.expr_reader.specs.Sorts.{is_descending, has_nulls_first}
use Rattle.expr_reader.specs.declared.found.Found.{Found}
use Rattle.expr_reader.specs.Conditions.{next, the_column, column_of}
use Rattle.expr_reader.specs.Scope.{Scope, of_name, the_one, look_up}

-- the columns of a name that the select list shows
abbrev pub shown_of_name : Scope → List ColRef → List ℕ → Scope
shown_of_name scope select name = filter (λ v. list_any (is_column v.column) select) (of_name name scope)

-- the one among these; where there is none, what was found elsewhere
abbrev pub first_among : Scope → Found → Found
first_among [] elsewhere = elsewhere
first_among (v ∷ scope) elsewhere = the_one (v ∷ scope)

-- the column of an item: a bare name is sought in the select list first
abbrev pub order_column : Scope → List ColRef → Col → Result ColRef Fault
order_column scope select (bare n) = the_column (first_among (shown_of_name scope select (bytes_of n)) (look_up scope None (bytes_of n))) (token_of n) (token_of n)
order_column scope select (qualified q d n) = column_of scope (qualified q d n)

-- an item: its column, its direction and the end at which its NULLs stand, which is that of the greatest values where nothing
-- is said
abbrev pub order_item : Scope → List ColRef → Ordering → Result OrderItem Fault
order_item scope select (ordering c d z) =
    next (order_column scope select c) (λ x. Ok (record { col = x; descending = is_descending d; nulls_first = has_nulls_first (is_descending d) z }))

-- the items from the left
abbrev pub order_items : Scope → List ColRef → OrderBy → Result (List OrderItem) Fault
order_items scope select no_order = Ok []
order_items scope select (order_by _ _ o os) = bound_each (order_item scope select) (o ∷ further_parts (λ x. x) os)

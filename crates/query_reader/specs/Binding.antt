-- What a SELECT means over a catalogue, or its first fault: FROM first with the conditions of its joins, then WHERE, then the
-- list from the left, then ORDER BY, then LIMIT and OFFSET, then the limits of conjuncts and atoms (PostgreSQL manual, chapter
-- Queries; codes: appendix Error Codes; the limits are own).
use Rattle.std.specs.Prelude.{nat_lt, cond, List, [], ◌∷◌, ◌++◌, length, map, Option, Some, None, Result, Ok, Err}
use Rattle.pg_base.specs.declared.faults.Code.TheVariants.{S2, S15}
use Rattle.pg_base.specs.declared.faults.Fault.{Fault}
use Rattle.pg_base.specs.declared.faults.Limit.{Limit}
use Rattle.pg_base.specs.declared.faults.Limit.TheVariants.{Atoms, Conjuncts}
use Rattle.pg_base.specs.declared.limits.TheConstants.{MOST_ATOMS, MOST_CONJUNCTS}
use Rattle.pg_value.specs.declared.value.SqlType.{SqlType}
use Rattle.pg_expr.specs.declared.operand.ColRef.{ColRef}
use Rattle.pg_expr.specs.Columns.{atom_count_of}
use Rattle.pg_expr.specs.Cond.{Cond, conds_of}
use Rattle.catalog.specs.Contents.{Contents}
use Rattle.catalog.specs.Range.{Range, type_in}
use Rattle.eq_classes.specs.Classes.{conjuncts_in}
use Rattle.eq_classes.specs.Clauses.{ClassTable}
use Rattle.eq_classes.specs.declared.order.OrderItem.{OrderItem}
use Rattle.sql_lex.specs.declared.tokens.Token.{Token}
use Rattle.sql_grammar.specs.Faults.{fault_at}
use Rattle.sql_grammar.specs.FromParts.{groups_after}
use Rattle.sql_grammar.specs.Syntax.{Group, Where, no_where, where_expr, select_from, OrderBy, WindowTree, WindowedSelect, windowed_select, OrderedSelect, ordered_select}
use Rattle.expr_reader.specs.Conditions.{next, the_column}
use Rattle.expr_reader.specs.Scope.{Scope, columns_in_scope, look_up, under}
use Rattle.sql_query.specs.Queries.{Query}
use Rattle.sql_query.specs.declared.window.Window.{Window}
use Rattle.query_reader.specs.declared.written.Item.{Item}
use Rattle.query_reader.specs.declared.written.Item.TheVariants.{Every, EveryOf, Bare, Qualified}
use Rattle.query_reader.specs.From.{Joined, conjuncts_of_expr, nothing_joined, with_groups}
use Rattle.query_reader.specs.Named.{columns_in_all}
use Rattle.query_reader.specs.Order.{order_items}
use Rattle.query_reader.specs.Scope.{scope_of}
use Rattle.query_reader.specs.Windows.{window_of}
use Rattle.query_reader.specs.Written.{item_of, items_of}

-- a SELECT with its names bound, apart from its classes: its relations, the columns that it shows, its conjuncts as written,
-- the items of ORDER BY, and its window, where LIMIT or OFFSET is written
pub record Bound : Type 0 where
  pub range : Range
  pub select : List ColRef
  pub where_all : List Cond
  pub order : List OrderItem
  pub window : Option Window

-- every column that is named: those shown, those of the conjuncts, and those of ORDER BY
abbrev pub named_in : List ColRef → List Cond → List OrderItem → List ColRef
named_in select conjuncts order = select ++ (columns_in_all (conds_of conjuncts) ++ map (λ i. i.col) order)

-- the query with these classes
abbrev pub query_with : ClassTable → Bound → Query
query_with classes b = record {
  range = b.range;
  classes = classes;
  select = b.select;
  order = b.order;
  used = named_in b.select b.where_all b.order;
  where_all = b.where_all;
  window = b.window;
}

-- the one column that is found
abbrev pub alone : ColRef → Result (List ColRef) Fault
alone c = Ok (c ∷ [])

-- the columns under an alias: there is one at least
abbrev pub found_relation : Scope → Token → Result (List ColRef) Fault
found_relation [] qualifier = Err (fault_at S2 qualifier)
found_relation (v ∷ scope) qualifier = Ok (columns_in_scope (v ∷ scope))

-- the columns that an item shows
abbrev pub item_columns : Scope → Item → Result (List ColRef) Fault
item_columns scope Every = Ok (columns_in_scope scope)
item_columns scope (EveryOf q) = found_relation (under q.bytes scope) q.token
item_columns scope (Bare n) = next (the_column (look_up scope None n.bytes) n.token n.token) alone
item_columns scope (Qualified q n) = next (the_column (look_up scope (Some q.bytes) n.bytes) q.token n.token) alone

-- one after the other: the first fault wins
abbrev pub then_columns : Result (List ColRef) Fault → Result (List ColRef) Fault → Result (List ColRef) Fault
then_columns (Ok columns) (Ok more) = Ok (columns ++ more)
then_columns (Ok columns) (Err fault) = Err fault
then_columns (Err fault) later = Err fault

-- the columns that the list shows
abbrev pub list_columns : Scope → List Item → Result (List ColRef) Fault
list_columns scope [] = Ok []
list_columns scope (item ∷ items) = then_columns (item_columns scope item) (list_columns scope items)

-- the conjuncts of WHERE as written
abbrev pub conjuncts_written : Scope → (ColRef → SqlType) → Where → Result (List Cond) Fault
conjuncts_written scope type_of no_where = Ok []
conjuncts_written scope type_of (where_expr _ e) = conjuncts_of_expr scope type_of e

-- the first limit that conjuncts as written are past: that of their number in pushed form, a constant among them, then that of
-- their atoms
abbrev pub past_limit : List Cond → Option Limit
past_limit ws = cond (nat_lt MOST_CONJUNCTS (length (conjuncts_in ws))) (Some Conjuncts) (cond (nat_lt MOST_ATOMS (atom_count_of (conds_of ws))) (Some Atoms) None)

-- a limit that is passed is an error at the statement's first token
abbrev pub limited : {A : Type 0} → Token → Option Limit → A → Result A Fault
limited start None x = Ok x
limited start (Some limit) x = Err (fault_at (S15 limit) start)

-- WHERE, then the list, then ORDER BY, over the relations that FROM names, then LIMIT and OFFSET, then the limits. The
-- conjuncts are those of the conditions of joins in the order of the text, then those of WHERE.
abbrev pub bound_over : Token → List Item → Where → OrderBy → WindowTree → Joined → Result Bound Fault
bound_over start items condition order rows j =
    let scope = scope_of j.contents j.range in
    next (conjuncts_written scope (type_in j.contents j.range) condition) (λ conjuncts.
    next (list_columns scope items) (λ columns.
    next (order_items scope columns order) (λ ordered.
    next (window_of rows) (λ window.
    limited start (past_limit (j.conjuncts ++ conjuncts)) (record { range = j.range; select = columns; where_all = j.conjuncts ++ conjuncts; order = ordered; window = window })))))

-- what these parts of a SELECT mean, in a statement that begins at this token: FROM first
abbrev pub bound_from : Contents → Token → List Item → List Group → Where → OrderBy → WindowTree → Result Bound Fault
bound_from c start items groups condition order rows = next (with_groups (nothing_joined c) groups) (bound_over start items condition order rows)

-- what a SELECT with its order and its window means, in a statement that begins at this token
abbrev pub bound_part : Contents → Token → WindowedSelect → Result Bound Fault
bound_part c start (windowed_select (select_from _ o os _ g gs w) y v) = bound_from c start (item_of o ∷ items_of os) (g ∷ groups_after gs) w y v

-- what a SELECT with its order, its window and its end means, also behind EXPLAIN, in a statement that begins at this token
abbrev pub bound : Contents → Token → OrderedSelect → Result Bound Fault
bound c start (ordered_select _ q y v _) = bound_part c start (windowed_select q y v)

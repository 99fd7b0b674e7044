-- What a grouped SELECT means over a catalogue, or its first fault: FROM first with the conditions of its joins, then WHERE,
-- then the list from the left, then ORDER BY, then GROUP BY, then the first column that is not grouped, then the limits of
-- conjuncts and atoms (PostgreSQL manual, chapter Queries, GROUP BY; Aggregate Functions; codes: appendix Error Codes; the
-- order and the limits are own).
use Rattle.std.specs.Prelude.{ℕ, Bool, true, false, cond, List, [], ◌∷◌, ◌++◌, codes, map, filter_map, Option, Some, None, Result, Ok, Err}
use Rattle.std.specs.List.{list_any}
use Rattle.std.specs.Str.{bytes_eq}
use Rattle.pg_base.specs.declared.faults.Code.TheVariants.{S9, S18}
use Rattle.pg_base.specs.declared.faults.Fault.{Fault}
use Rattle.pg_value.specs.declared.value.SqlType.{SqlType}
use Rattle.pg_value.specs.declared.value.SqlType.TheVariants as types
use Rattle.pg_expr.specs.declared.operand.ColRef.{ColRef}
use Rattle.pg_expr.specs.Cond.{Cond, conds_of}
use Rattle.catalog.specs.Contents.{Contents}
use Rattle.catalog.specs.Range.{Range, type_in}
use Rattle.eq_classes.specs.Clauses.{ClassTable}
use Rattle.eq_classes.specs.Equality.{is_column}
use Rattle.eq_classes.specs.declared.order.OrderItem.{OrderItem}
use Rattle.sql_lex.specs.declared.tokens.Token.{Token}
use Rattle.sql_grammar.specs.Faults.{bytes_of, fault_at}
use Rattle.sql_grammar.specs.FromParts.{groups_after}
use Rattle.sql_grammar.specs.Syntax.{Argument, all_rows, of_col, GroupedItem, plain_item, call, GroupBy, no_group_by, group_by, Where, OrderBy, no_order, order_by, Ordering, ordering, GroupedSelect, distinct_select, grouped_select}
use Rattle.sql_grammar.specs.Terminals.{Ident, token_of}
use Rattle.expr_reader.specs.Lists.{further_parts, bound_each}
use Rattle.expr_reader.specs.Conditions.{next, column_of}
use Rattle.expr_reader.specs.Scope.{Scope}
use Rattle.sql_query.specs.Queries.{Query}
use Rattle.sql_query.specs.Grouped.{GroupedQuery}
use Rattle.sql_query.specs.declared.grouped.Item.{Item}
use Rattle.sql_query.specs.declared.grouped.Item.TheVariants.{Key, CountAll, Count, Min, Max}
use Rattle.query_reader.specs.Binding.{conjuncts_written, item_columns, limited, past_limit}
use Rattle.query_reader.specs.From.{Joined, nothing_joined, with_groups}
use Rattle.query_reader.specs.Named.{columns_in_all}
use Rattle.query_reader.specs.Order.{order_items}
use Rattle.query_reader.specs.Scope.{scope_of}
use Rattle.query_reader.specs.Written.{item_of}
use Rattle.group_query.specs.Shapes.{place_in}
use Rattle.group_reader.specs.declared.parts.Part.{Part}
use Rattle.group_reader.specs.declared.parts.Part.TheVariants as parts
use Rattle.group_reader.specs.Written.{word_of_col, word_of_output}

-- there is neither a least nor a greatest value of truth values and of uuids: PostgreSQL 16 has no min and no max of them
abbrev pub has_no_least : SqlType → Bool
has_no_least types.Bool = true
has_no_least types.Uuid = true
has_no_least _ = false

-- a call by its name over a column, of such a type: count of any column, min and max of one whose type has a least value
abbrev pub over_column : List ℕ → SqlType → ColRef → Option Item
over_column name typed x =
    cond (bytes_eq name (codes "count")) (Some (Count x))
    (cond (has_no_least typed) None (cond (bytes_eq name (codes "min")) (Some (Min x)) (cond (bytes_eq name (codes "max")) (Some (Max x)) None)))

-- a call by its name over all rows
abbrev pub over_rows : List ℕ → Option Item
over_rows name = cond (bytes_eq name (codes "count")) (Some CountAll) None

-- there is such a call, or its name is an error
abbrev pub known_call : Ident → Option Item → Result (List Part) Fault
known_call n None = Err (fault_at S9 (token_of n))
known_call n (Some item) = Ok (parts.Called item ∷ [])

module _ (scope : Scope) (type_of : ColRef → SqlType) where
  -- a call: its column is bound first
  abbrev pub call_parts : Ident → Argument → Result (List Part) Fault
  call_parts n (all_rows m) = known_call n (over_rows (bytes_of n))
  call_parts n (of_col c) = next (column_of scope c) (λ x. known_call n (over_column (bytes_of n) (type_of x) x))

  -- an item: its columns, or a call
  abbrev pub item_parts : GroupedItem → Result (List Part) Fault
  item_parts (plain_item o) = next (item_columns scope (item_of o)) (λ xs. Ok (map (λ x. parts.Shown x (word_of_output o)) xs))
  item_parts (call n _ a _) = call_parts n a

  -- items from the left
  abbrev pub list_parts : List GroupedItem → Result (List Part) Fault
  list_parts [] = Ok []
  list_parts (i ∷ is) = next (item_parts i) (λ ps. next (list_parts is) (λ qs. Ok (ps ++ qs)))

-- the column that an item of the list shows, none of a call
abbrev pub shown_column : Part → Option ColRef
shown_column (parts.Shown x t) = Some x
shown_column (parts.Called i) = None

-- the columns that the list shows, from the left
abbrev pub shown_columns : List Part → List ColRef
shown_columns ps = filter_map shown_column ps

-- the column that a call is of
abbrev pub column_by_call : Item → Option ColRef
column_by_call (Key n) = None
column_by_call CountAll = None
column_by_call (Count x) = Some x
column_by_call (Min x) = Some x
column_by_call (Max x) = Some x

-- the column that an item of the list names, by itself or in a call
abbrev pub column_of_part : Part → Option ColRef
column_of_part (parts.Shown x t) = Some x
column_of_part (parts.Called i) = column_by_call i

-- the columns of GROUP BY
abbrev pub group_columns : Scope → GroupBy → Result (List ColRef) Fault
group_columns scope no_group_by = Ok []
group_columns scope (group_by _ _ c cs) = bound_each (column_of scope) (c ∷ further_parts (λ x. x) cs)

-- what a SELECT is grouped by: the columns of GROUP BY, or, behind DISTINCT, those that its list shows
pub data Grouper : Type 0 where
  columns_of : GroupBy → Grouper
  shown : Grouper

-- the columns that a SELECT is grouped by, where its list is bound to these parts
abbrev pub grouping_columns : Scope → Grouper → List Part → Result (List ColRef) Fault
grouping_columns scope (columns_of b) ps = group_columns scope b
grouping_columns scope shown ps = Ok (shown_columns ps)

-- a column is itself one of the GROUP BY columns: that a condition makes it equal to one is not enough
abbrev pub is_grouped : List ColRef → ColRef → Bool
is_grouped keys x = list_any (is_column x) keys

-- the word of the error of a column that is shown and not grouped
abbrev pub ungrouped_part : List ColRef → Part → Option Token
ungrouped_part keys (parts.Shown x t) = cond (is_grouped keys x) None (Some t)
ungrouped_part keys (parts.Called i) = None

-- the last word of a column of ORDER BY
abbrev pub word_of_ordering : Ordering → Token
word_of_ordering (ordering c d z) = word_of_col c

-- for each column of ORDER BY the word of the error where it is not grouped
abbrev pub order_words : OrderBy → List Token
order_words no_order = []
order_words (order_by _ _ o os) = map word_of_ordering (o ∷ further_parts (λ x. x) os)

-- the words of those items of ORDER BY that are not grouped
abbrev pub ungrouped_items : List ColRef → List OrderItem → List Token → List Token
ungrouped_items keys (i ∷ is) (t ∷ ts) = cond (is_grouped keys i.col) (ungrouped_items keys is ts) (t ∷ ungrouped_items keys is ts)
ungrouped_items keys _ _ = []

-- the first of the words of ungrouped columns is an error, where there is one
abbrev pub none_of : {A : Type 0} → List Token → A → Result A Fault
none_of [] x = Ok x
none_of (t ∷ ts) x = Err (fault_at S18 t)

-- the first column that is neither grouped nor in a call is an error: in the list, then in ORDER BY
abbrev pub all_grouped : {A : Type 0} → List ColRef → List Part → List OrderItem → List Token → A → Result A Fault
all_grouped keys ps ordered words x = none_of (filter_map (ungrouped_part keys) ps ++ ungrouped_items keys ordered words) x

-- the lists of a grouped SELECT with their names bound: what it shows, its ORDER BY and its GROUP BY columns
pub record BoundLists : Type 0 where
  pub parts : List Part
  pub order : List OrderItem
  pub keys : List ColRef

-- the list that is shown, then ORDER BY, then GROUP BY, then what is not grouped
abbrev pub lists_bound : Scope → (ColRef → SqlType) → List GroupedItem → Grouper → OrderBy → Result BoundLists Fault
lists_bound scope type_of items groups order =
    next (list_parts scope type_of items) (λ ps.
    next (order_items scope (shown_columns ps) order) (λ ordered.
    next (grouping_columns scope groups ps) (λ keys.
    all_grouped keys ps ordered (order_words order) (record { parts = ps; order = ordered; keys = keys }))))

-- a grouped SELECT with its names bound, apart from its classes
pub record BoundGroups : Type 0 where
  pub range : Range
  pub where_all : List Cond
  pub lists : BoundLists

-- what is shown
abbrev pub item_in : List ColRef → Part → Item
item_in keys (parts.Shown x t) = Key (place_in keys x)
item_in keys (parts.Called i) = i

-- every column that is named: those of the list, those of the conjuncts, those of ORDER BY, and those of GROUP BY
abbrev pub named_in_lists : BoundLists → List Cond → List ColRef
named_in_lists l ws = filter_map column_of_part l.parts ++ (columns_in_all (conds_of ws) ++ (map (λ i. i.col) l.order ++ l.keys))

-- the query whose tuples are grouped, with these classes
abbrev pub base_with : ClassTable → BoundGroups → Query
base_with classes b = record {
  range = b.range;
  classes = classes;
  select = [];
  order = [];
  used = named_in_lists b.lists b.where_all;
  where_all = b.where_all;
  window = None;
}

-- the grouped query with these classes
abbrev pub grouped_with : ClassTable → BoundGroups → GroupedQuery
grouped_with classes b = record { base = base_with classes b; keys = b.lists.keys; items = map (item_in b.lists.keys) b.lists.parts; order = b.lists.order }

-- WHERE, then the lists, over the relations that FROM names, then the limits
abbrev pub groups_over : Token → List GroupedItem → Where → Grouper → OrderBy → Joined → Result BoundGroups Fault
groups_over start items condition groups order j =
    let scope = scope_of j.contents j.range in
    let type_of = type_in j.contents j.range in
    next (conjuncts_written scope type_of condition) (λ conjuncts.
    next (lists_bound scope type_of items groups order) (λ lists.
    limited start (past_limit (j.conjuncts ++ conjuncts)) (record { range = j.range; where_all = j.conjuncts ++ conjuncts; lists = lists })))

-- what a grouped SELECT means, in a statement that begins at this token: FROM first
abbrev pub bound_groups : Contents → Token → GroupedSelect → Result BoundGroups Fault
bound_groups c start (grouped_select i is _ g gs w b _ y _) =
    next (with_groups (nothing_joined c) (g ∷ groups_after gs)) (groups_over start (i ∷ further_parts (λ x. x) is) w (columns_of b) y)
bound_groups c start (distinct_select _ _ o os _ g gs w y _) =
    next (with_groups (nothing_joined c) (g ∷ groups_after gs)) (groups_over start (map plain_item (o ∷ further_parts (λ x. x) os)) w shown y)

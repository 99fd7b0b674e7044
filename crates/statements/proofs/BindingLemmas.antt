-- A fault of a SELECT is in no record of data.
use Rattle.std.proofs.Common.{◌≡◌, ℕ, Bool, true, false, cond, nat_lt, length, List, [], ◌∷◌, ◌++◌, Option, Some, None, Ok, Err, Result, refl, subst}
use Rattle.std.specs.Str.Parse.{digits_value}
use Rattle.pg_base.specs.declared.faults.Fault.{Fault}
use Rattle.pg_base.specs.declared.faults.Limit.{Limit}
use Rattle.pg_base.specs.declared.faults.Limit.TheVariants.{Relations}
use Rattle.pg_base.specs.declared.faults.Code.TheVariants.{S7, S11, S15}
use Rattle.pg_base.specs.declared.limits.TheConstants.{MOST_RELATIONS}
use Rattle.pg_base.specs.declared.numbers.TableNo.{TableNo}
use Rattle.pg_value.specs.declared.value.SqlType.{SqlType}
use Rattle.pg_value.specs.declared.value.SqlType.TheVariants as types
use Rattle.pg_value.specs.Types.{limit}
use Rattle.pg_expr.specs.declared.operand.ColRef.{ColRef}
use Rattle.catalog.specs.Contents.{Contents}
use Rattle.catalog.specs.Range.{type_in}
use Rattle.catalog.specs.Tables.{table_named}
use Rattle.sql_lex.specs.declared.tokens.Token.{Token}
use Rattle.sql_grammar.specs.Terminals.{Said, token_of}
use Rattle.sql_grammar.specs.Faults.{bytes_of, fault_at}
use Rattle.sql_grammar.specs.Syntax.{Col, bare, qualified, Ordering, ordering, OrderBy, no_order, order_by, OrderedSelect, ordered_select, Expr, Join, join_on, cross_join, Group, group_of, select_from, WindowedSelect, windowed_select, Where, no_where, where_expr, LimitTree, no_limit, most_rows, Offset, no_offset, skipped_rows, WindowTree, window}
use Rattle.sql_grammar.specs.FromParts.{groups_after}
use Rattle.expr_reader.specs.declared.cursor.Spelled.{Spelled}
use Rattle.expr_reader.specs.Lists.{further_parts}
use Rattle.expr_reader.specs.Conditions.{the_column, meaning_of_expr}
use Rattle.expr_reader.specs.Scope.{Scope, under, look_up}
use Rattle.query_reader.specs.declared.written.Item.{Item}
use Rattle.query_reader.specs.declared.written.Item.TheVariants.{Every, EveryOf, Bare, Qualified}
use Rattle.query_reader.specs.declared.written.Source.{Source}
use Rattle.query_reader.specs.Written.{item_of, items_of, source_of}
use Rattle.query_reader.specs.Order.{first_among, order_column, order_item, order_items, shown_of_name}
use Rattle.query_reader.specs.Scope.{scope_after, scope_of}
use Rattle.query_reader.specs.From.{Joined, alias_or, conjuncts_of_expr, is_taken, nothing_joined, of_table, under_alias, with_condition, with_group, with_groups, with_join, with_joins, with_relation}
use Rattle.query_reader.specs.Windows.{most_of, rows_written, skipped_of, window_of}
use Rattle.query_reader.specs.Binding.{found_relation, item_columns, then_columns, list_columns, conjuncts_written, limited, past_limit, bound_over, bound_from, bound_part, bound}
use Rattle.statements.proofs.PlainLemmas.{IsPlain, each-plain, next-plain, found-plain, expr-plain}

relation-plain : (scope : Scope) (qualifier : Token) → IsPlain (found_relation scope qualifier)
relation-plain [] qualifier = refl
relation-plain (v ∷ scope) qualifier = tt

pub item-plain : (scope : Scope) (item : Item) → IsPlain (item_columns scope item)
item-plain scope Every = tt
item-plain scope (EveryOf q) = relation-plain (under q.bytes scope) q.token
item-plain scope (Bare n) = next-plain (the_column (look_up scope None n.bytes) n.token n.token) _ (found-plain (look_up scope None n.bytes) n.token n.token) (λ c. tt)
item-plain scope (Qualified q n) =
    next-plain (the_column (look_up scope (Some q.bytes) n.bytes) q.token n.token) _ (found-plain (look_up scope (Some q.bytes) n.bytes) q.token n.token) (λ c. tt)

then-plain : (first later : Result (List ColRef) Fault) → IsPlain first → IsPlain later → IsPlain (then_columns first later)
then-plain (Ok columns) (Ok more) h k = tt
then-plain (Ok columns) (Err f) h k = k
then-plain (Err f) later h k = h

list-plain : (scope : Scope) (items : List Item) → IsPlain (list_columns scope items)
list-plain scope [] = tt
list-plain scope (item ∷ items) = then-plain (item_columns scope item) (list_columns scope items) (item-plain scope item) (list-plain scope items)

pub where-plain : (scope : Scope) (type_of : ColRef → SqlType) (w : Where) → IsPlain (conjuncts_written scope type_of w)
where-plain scope type_of no_where = tt
where-plain scope type_of (where_expr k e) = next-plain (meaning_of_expr scope type_of e) _ (expr-plain scope type_of e) (λ c. tt)

pub limit-plain : {A : Type 0} (start : Token) (past : Option Limit) (x : A) → IsPlain (limited start past x)
limit-plain start None x = tt
limit-plain start (Some l) x = refl

under-plain : (j : Joined) (table : TableNo) (alias : Spelled) → IsPlain (under_alias j table alias)
under-plain j table alias = by (is_taken j.range alias.bytes)
  where
    by : (taken : Bool) → IsPlain (cond taken (Err (fault_at S7 alias.token)) (Ok (record j { range = j.range ++ (table, alias.bytes) ∷ [] })))
    by true = refl
    by false = tt

of-table-plain : (j : Joined) (table : Option TableNo) (source : Source) → IsPlain (of_table j table source)
of-table-plain j None source = refl
of-table-plain j (Some table) source = under-plain j table (alias_or source.alias source.table)

relation-added-plain : (j : Joined) (source : Source) → IsPlain (with_relation j source)
relation-added-plain j source = by (nat_lt (length j.range) MOST_RELATIONS)
  where
    by : (few : Bool) → IsPlain (cond few (of_table j (table_named j.contents source.table.bytes) source) (Err (fault_at (S15 Relations) source.table.token)))
    by true = of-table-plain j (table_named j.contents source.table.bytes) source
    by false = refl

conjuncts-plain : (scope : Scope) (type_of : ColRef → SqlType) (e : Expr) → IsPlain (conjuncts_of_expr scope type_of e)
conjuncts-plain scope type_of e = next-plain (meaning_of_expr scope type_of e) _ (expr-plain scope type_of e) (λ c. tt)

condition-plain : (first : ℕ) (j : Joined) (e : Expr) → IsPlain (with_condition first j e)
condition-plain first j e =
    next-plain (conjuncts_of_expr (scope_after j.contents first j.range) (type_in j.contents j.range) e) _ (conjuncts-plain (scope_after j.contents first j.range) (type_in j.contents j.range) e) (λ ks. tt)

join-plain : (first : ℕ) (j : Joined) (x : Join) → IsPlain (with_join first j x)
join-plain first j (join_on i k r o e) = next-plain (with_relation j (source_of r)) _ (relation-added-plain j (source_of r)) (λ i. condition-plain first i e)
join-plain first j (cross_join k i r) = relation-added-plain j (source_of r)

joins-plain : (first : ℕ) (j : Joined) (xs : List Join) → IsPlain (with_joins first j xs)
joins-plain first j [] = tt
joins-plain first j (x ∷ xs) = next-plain (with_join first j x) _ (join-plain first j x) (λ i. joins-plain first i xs)

group-plain : (j : Joined) (g : Group) → IsPlain (with_group j g)
group-plain j (group_of r xs) = next-plain (with_relation j (source_of r)) _ (relation-added-plain j (source_of r)) (λ i. joins-plain (length j.range) i xs)

pub groups-plain : (j : Joined) (gs : List Group) → IsPlain (with_groups j gs)
groups-plain j [] = tt
groups-plain j (g ∷ gs) = next-plain (with_group j g) _ (group-plain j g) (λ i. groups-plain i gs)

order-column-plain : (scope : Scope) (select : List ColRef) (x : Col) → IsPlain (order_column scope select x)
order-column-plain scope select (bare n) = found-plain (first_among (shown_of_name scope select (bytes_of n)) (look_up scope None (bytes_of n))) (token_of n) (token_of n)
order-column-plain scope select (qualified q d n) = found-plain (look_up scope (Some (bytes_of q)) (bytes_of n)) (token_of q) (token_of n)

order-item-plain : (scope : Scope) (select : List ColRef) (o : Ordering) → IsPlain (order_item scope select o)
order-item-plain scope select (ordering x d z) = next-plain (order_column scope select x) _ (order-column-plain scope select x) (λ y. tt)

pub order-plain : (scope : Scope) (select : List ColRef) (o : OrderBy) → IsPlain (order_items scope select o)
order-plain scope select no_order = tt
order-plain scope select (order_by k b o os) = each-plain (order_item scope select) (o ∷ further_parts (λ x. x) os) (order-item-plain scope select)

rows-plain : (n : Said) → IsPlain (rows_written n)
rows-plain n = by (nat_lt (digits_value 10 n.value) (limit types.Int8))
  where
    by : (small : Bool) → IsPlain (cond small (Ok (digits_value 10 n.value)) (Err (fault_at S11 n.token)))
    by true = tt
    by false = refl

most-plain : (l : LimitTree) → IsPlain (most_of l)
most-plain no_limit = tt
most-plain (most_rows p k n) = next-plain (rows_written n) _ (rows-plain n) (λ rows. tt)

skipped-plain : (o : Offset) → IsPlain (skipped_of o)
skipped-plain no_offset = tt
skipped-plain (skipped_rows p k n) = next-plain (rows_written n) _ (rows-plain n) (λ rows. tt)

window-plain : (v : WindowTree) → IsPlain (window_of v)
window-plain (window l o) = next-plain (most_of l) _ (most-plain l) (λ most. next-plain (skipped_of o) _ (skipped-plain o) (λ skipped. tt))

over-plain : (start : Token) (items : List Item) (w : Where) (order : OrderBy) (v : WindowTree) (j : Joined) → IsPlain (bound_over start items w order v j)
over-plain start items w order v j =
    next-plain (conjuncts_written (scope_of j.contents j.range) (type_in j.contents j.range) w) _ (where-plain (scope_of j.contents j.range) (type_in j.contents j.range) w)
    (λ conjuncts. next-plain (list_columns (scope_of j.contents j.range) items) _ (list-plain (scope_of j.contents j.range) items)
    (λ columns. next-plain (order_items (scope_of j.contents j.range) columns order) _ (order-plain (scope_of j.contents j.range) columns order)
    (λ ordered. next-plain (window_of v) _ (window-plain v)
    (λ rows. limit-plain start (past_limit (j.conjuncts ++ conjuncts)) (record { range = j.range; select = columns; where_all = j.conjuncts ++ conjuncts; order = ordered; window = rows })))))

from-plain : (c : Contents) (start : Token) (items : List Item) (gs : List Group) (w : Where) (order : OrderBy) (v : WindowTree) → IsPlain (bound_from c start items gs w order v)
from-plain c start items gs w order v = next-plain (with_groups (nothing_joined c) gs) _ (groups-plain (nothing_joined c) gs) (over-plain start items w order v)

pub part-plain : (c : Contents) (start : Token) (x : WindowedSelect) → IsPlain (bound_part c start x)
part-plain c start (windowed_select (select_from k o os m g gs w) y v) = from-plain c start (item_of o ∷ items_of os) (g ∷ groups_after gs) w y v

pub bound-plain : (c : Contents) (start : Token) (x : OrderedSelect) (f : Fault) → bound c start x ≡ Err f → f.rec ≡ 0
bound-plain c start (ordered_select e q y v end) f is = subst IsPlain is (part-plain c start (windowed_select q y v))

-- A fault of a SELECT that groups is in no record of data.
use Rattle.std.proofs.Common.{◌≡◌, List, filter_map, map, [], ◌∷◌, ◌++◌, Option, Some, None, Ok, Err, Result, refl, subst}
use Rattle.pg_base.specs.declared.faults.Fault.{Fault}
use Rattle.pg_value.specs.declared.value.SqlType.{SqlType}
use Rattle.pg_expr.specs.declared.operand.ColRef.{ColRef}
use Rattle.catalog.specs.Contents.{Contents}
use Rattle.catalog.specs.Range.{type_in}
use Rattle.sql_lex.specs.declared.tokens.Token.{Token}
use Rattle.sql_grammar.specs.FromParts.{groups_after}
use Rattle.sql_grammar.specs.Syntax.{Argument, all_rows, of_col, GroupBy, no_group_by, group_by, GroupedItem, plain_item, call, GroupedSelect, distinct_select, grouped_select, OrderBy, Where}
use Rattle.sql_grammar.specs.Faults.{bytes_of}
use Rattle.sql_grammar.specs.Terminals.{Ident}
use Rattle.eq_classes.specs.declared.order.OrderItem.{OrderItem}
use Rattle.expr_reader.specs.Lists.{further_parts}
use Rattle.sql_query.specs.declared.grouped.Item.{Item}
use Rattle.expr_reader.specs.Conditions.{column_of}
use Rattle.expr_reader.specs.Scope.{Scope}
use Rattle.query_reader.specs.Binding.{conjuncts_written, item_columns, past_limit}
use Rattle.query_reader.specs.From.{Joined, nothing_joined, with_groups}
use Rattle.query_reader.specs.Order.{order_items}
use Rattle.query_reader.specs.Scope.{scope_of}
use Rattle.query_reader.specs.Written.{item_of}
use Rattle.group_reader.specs.declared.parts.Part.{Part}
use Rattle.group_reader.specs.Binding.{Grouper, columns_of, shown, all_grouped, bound_groups, call_parts, group_columns, groups_over, item_parts, grouping_columns, known_call, list_parts, lists_bound, none_of, order_words, over_column, over_rows, shown_columns, ungrouped_items, ungrouped_part}
use Rattle.statements.proofs.BindingLemmas.{groups-plain, item-plain, limit-plain, order-plain, where-plain}
use Rattle.statements.proofs.PlainLemmas.{IsPlain, column-plain, each-plain, next-plain}

known-plain : (n : Ident) (o : Option Item) → IsPlain (known_call n o)
known-plain n None = refl
known-plain n (Some i) = tt

none-plain : {A : Type 0} (ts : List Token) (x : A) → IsPlain (none_of ts x)
none-plain [] x = tt
none-plain (t ∷ ts) x = refl

grouped-plain : {A : Type 0} (keys : List ColRef) (ps : List Part) (ordered : List OrderItem) (words : List Token) (x : A) → IsPlain (all_grouped keys ps ordered words x)
grouped-plain keys ps ordered words x = none-plain (filter_map (ungrouped_part keys) ps ++ ungrouped_items keys ordered words) x

columns-plain : (scope : Scope) (b : GroupBy) → IsPlain (group_columns scope b)
columns-plain scope no_group_by = tt
columns-plain scope (group_by k b c cs) = each-plain (column_of scope) (c ∷ further_parts (λ x. x) cs) (column-plain scope)

module _ (scope : Scope) (type_of : ColRef → SqlType) where
  call-plain : (n : Ident) (a : Argument) → IsPlain (call_parts scope type_of n a)
  call-plain n (all_rows m) = known-plain n (over_rows (bytes_of n))
  call-plain n (of_col c) = next-plain (column_of scope c) _ (column-plain scope c) (λ x. known-plain n (over_column (bytes_of n) (type_of x) x))

  part-plain : (i : GroupedItem) → IsPlain (item_parts scope type_of i)
  part-plain (plain_item o) = next-plain (item_columns scope (item_of o)) _ (item-plain scope (item_of o)) (λ xs. tt)
  part-plain (call n o a m) = call-plain n a

  parts-plain : (is : List GroupedItem) → IsPlain (list_parts scope type_of is)
  parts-plain [] = tt
  parts-plain (i ∷ is) = next-plain (item_parts scope type_of i) _ (part-plain i) (λ ps. next-plain (list_parts scope type_of is) _ (parts-plain is) (λ qs. tt))

  keys-plain : (b : Grouper) (ps : List Part) → IsPlain (grouping_columns scope b ps)
  keys-plain (columns_of b) ps = columns-plain scope b
  keys-plain shown ps = tt

  lists-plain : (is : List GroupedItem) (b : Grouper) (y : OrderBy) → IsPlain (lists_bound scope type_of is b y)
  lists-plain is b y =
      next-plain (list_parts scope type_of is) _ (parts-plain is)
      (λ ps. next-plain (order_items scope (shown_columns ps) y) _ (order-plain scope (shown_columns ps) y)
      (λ ordered. next-plain (grouping_columns scope b ps) _ (keys-plain b ps) (λ keys. grouped-plain keys ps ordered (order_words y) (record { parts = ps; order = ordered; keys = keys }))))

over-plain : (start : Token) (is : List GroupedItem) (w : Where) (b : Grouper) (y : OrderBy) (j : Joined) → IsPlain (groups_over start is w b y j)
over-plain start is w b y j =
    next-plain (conjuncts_written (scope_of j.contents j.range) (type_in j.contents j.range) w) _ (where-plain (scope_of j.contents j.range) (type_in j.contents j.range) w)
    (λ conjuncts. next-plain (lists_bound (scope_of j.contents j.range) (type_in j.contents j.range) is b y) _ (lists-plain (scope_of j.contents j.range) (type_in j.contents j.range) is b y)
    (λ lists. limit-plain start (past_limit (j.conjuncts ++ conjuncts)) (record { range = j.range; where_all = j.conjuncts ++ conjuncts; lists = lists })))

groups-bound : (c : Contents) (start : Token) (x : GroupedSelect) → IsPlain (bound_groups c start x)
groups-bound c start (grouped_select i is f g gs w b d y e) =
    next-plain (with_groups (nothing_joined c) (g ∷ groups_after gs)) _ (groups-plain (nothing_joined c) (g ∷ groups_after gs)) (over-plain start (i ∷ further_parts (λ x. x) is) w (columns_of b) y)
groups-bound c start (distinct_select u d o os f g gs w y e) =
    next-plain (with_groups (nothing_joined c) (g ∷ groups_after gs)) _ (groups-plain (nothing_joined c) (g ∷ groups_after gs)) (over-plain start (map plain_item (o ∷ further_parts (λ x. x) os)) w shown y)

by-fault : {A : Type 0} (r : Result A Fault) (f : Fault) → r ≡ Err f → IsPlain r → f.rec ≡ 0
by-fault (Ok x) f is plain = absurd (cc (is))
by-fault (Err g) f is plain = let same : g ≡ f = cc (is) in subst (λ (h : Fault). h.rec ≡ 0) same plain

pub groups-bound-plain : (c : Contents) (start : Token) (x : GroupedSelect) (f : Fault) → bound_groups c start x ≡ Err f → f.rec ≡ 0
groups-bound-plain c start x f is = by-fault (bound_groups c start x) f is (groups-bound c start x)

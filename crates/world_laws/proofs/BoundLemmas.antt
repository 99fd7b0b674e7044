-- A query that is meant is well bound.
use Rattle.std.proofs.Common.{◌≡◌, ◌<◌, ◌++◌, ◌∷◌, [], ℕ, List, All, length, Option, Some, None, Ok, refl, subst, arith}
use Rattle.std.proofs.lemmas.List.Elements.{All-append, All-nil}
use Rattle.pg_base.specs.Names.{IsName}
use Rattle.pg_base.specs.declared.faults.Limit.{Limit}
use Rattle.pg_base.specs.declared.numbers.TableNo.{TableNo}
use Rattle.pg_expr.specs.Cond.{Cond}
use Rattle.catalog.specs.Contents.{Contents, IsLawful}
use Rattle.catalog.specs.Range.{type_in}
use Rattle.eq_classes.specs.Clauses.{ClassTable}
use Rattle.eq_classes.specs.Holding.{IsClassTable}
use Rattle.path_cost.specs.work.Columns.{IsOver, is_column_in}
use Rattle.sql_lex.specs.declared.tokens.Token.{Token}
use Rattle.sql_grammar.specs.FromParts.{groups_after}
use Rattle.sql_grammar.specs.Syntax.{Group, Mark, OrderBy, select_from, Where, no_where, where_expr, WindowTree, WindowedSelect, windowed_select}
use Rattle.sql_grammar.specs.Terminals.{Terminal}
use Rattle.sql_grammar.specs.Words.{words_of_group, words_of_groups, words_of_output, words_of_outputs, words_of_order, words_of_select, words_of_where, words_of_window, words_of_windowed}
use Rattle.expr_reader.proofs.Named.{AreNamed}
use Rattle.expr_reader.proofs.TypedLemmas.{next-done}
use Rattle.sql_query.specs.WellBound.{given_of}
use Rattle.query_reader.specs.declared.written.Item.{Item}
use Rattle.query_reader.specs.Binding.{Bound, bound_from, bound_over, bound_part, conjuncts_written, limited, list_columns, past_limit, query_with}
use Rattle.query_reader.specs.From.{Joined, nothing_joined, with_groups}
use Rattle.query_reader.specs.Order.{order_items}
use Rattle.query_reader.specs.Scope.{scope_of}
use Rattle.query_reader.specs.work.Select.{IsBoundByItself}
use Rattle.query_reader.specs.Windows.{window_of}
use Rattle.query_reader.specs.Written.{item_of, items_of}
use Rattle.query_reader.proofs.AliasLemmas.{HasNames, after-words, all-named, before-words}
use Rattle.query_reader.proofs.BoundLemmas.{all-seen, well-bound}
use Rattle.query_reader.proofs.GrowLemmas.{some-groups}
use Rattle.query_reader.proofs.OrderLemmas.{order-seen}
use Rattle.world_laws.proofs.JoinedLemmas.{IsJoined, conjuncts-over, groups-joined, nothing-is}

pub within-limit : {A : Type 0} (start : Token) (o : Option Limit) (x y : A) → limited start o x ≡ Ok y → (o ≡ None) × (x ≡ y)
within-limit start None x y is = (refl, cc (is))
within-limit start (Some limit) x y is = absurd (cc (is))

pub where-over : (j : Joined) (w : Where) (ks : List Cond) → IsJoined j → conjuncts_written (scope_of j.contents j.range) (type_in j.contents j.range) w ≡ Ok ks → All (IsOver j.contents j.range) ks
where-over j no_where ks h is = let none : [] ≡ ks = cc (is) in subst (All (IsOver j.contents j.range)) none (All-nil (IsOver j.contents j.range))
where-over j (where_expr k e) ks h is = conjuncts-over j.contents j.range 0 e ks h.are is

over-bound : (j : Joined) (start : Token) (items : List Item) (w : Where) (y : OrderBy) (v : WindowTree) (b : Bound) → IsJoined j → HasNames j → 0 < length j.range → bound_over start items w y v j ≡ Ok b →
    (classes : ClassTable) → IsClassTable (given_of j.contents (query_with classes b)) classes → IsBoundByItself j.contents (query_with classes b)
over-bound j start items w y v b h names some is =
    let scope = scope_of j.contents j.range in
    let conjuncts = next-done (conjuncts_written scope (type_in j.contents j.range) w) _ b is in
    let columns = next-done (list_columns scope items) _ b conjuncts.rest in
    let ordered = next-done (order_items scope columns.value y) _ b columns.rest in
    let windowed = next-done (window_of v) _ b ordered.rest in
    let kept = within-limit start (past_limit (j.conjuncts ++ conjuncts.value)) _ b windowed.rest in
    subst (λ (x : Bound). (classes : ClassTable) → IsClassTable (given_of j.contents (query_with classes x)) classes → IsBoundByItself j.contents (query_with classes x)) kept.1
    (λ classes own. well-bound j.contents j.range h.are some items columns.value (j.conjuncts ++ conjuncts.value) ordered.value windowed.value classes columns.first
    (All-append (IsOver j.contents j.range) j.conjuncts conjuncts.value h.over (where-over j w conjuncts.value h conjuncts.first))
    (order-seen scope (is_column_in j.contents j.range) (all-seen j.contents j.range 0 h.are.lawful) columns.value y ordered.value ordered.first)
    kept.0 own names)

module _ (c : Contents) (lawful : IsLawful c) where
  from-bound : (start : Token) (items : List Item) (g : Group) (gs : List (Mark × Group)) (w : Where) (y : OrderBy) (v : WindowTree) (b : Bound) (rest : List Terminal) → AreNamed (words_of_group g ++ (words_of_groups gs ++ rest)) →
      bound_from c start items (g ∷ groups_after gs) w y v ≡ Ok b → (classes : ClassTable) → IsClassTable (given_of c (query_with classes b)) classes → IsBoundByItself c (query_with classes b)
  from-bound start items g gs w y v b rest words is classes own =
      let d = next-done (with_groups (nothing_joined c) (g ∷ groups_after gs)) (bound_over start items w y v) b is in
      let j = d.value in
      let h = groups-joined (nothing_joined c) j (g ∷ groups_after gs) (nothing-is c lawful) d.first in
      let grown = some-groups (nothing_joined c) j g (groups_after gs) d.first in
      let names = all-named (nothing_joined c) j g gs rest words (All-nil (λ (r : TableNo × List ℕ). IsName r.1)) d.first in
      let more = grown.more in
      subst (λ (k : Contents). (t : ClassTable) → IsClassTable (given_of k (query_with t b)) t → IsBoundByItself k (query_with t b)) grown.contents
      (over-bound j start items w y v b h names (omega (arith, more)) d.rest) classes own

  -- a SELECT with its order and its window, whose names are within the limits
  pub part-bound : (start : Token) (x : WindowedSelect) (rest : List Terminal) (b : Bound) → AreNamed (words_of_windowed x ++ rest) → bound_part c start x ≡ Ok b → (classes : ClassTable) → IsClassTable (given_of c (query_with classes b)) classes →
      IsBoundByItself c (query_with classes b)
  part-bound start (windowed_select (select_from k o os f g gs w) y v) rest b words is =
      let all = before-words (words_of_windowed (windowed_select (select_from k o os f g gs w) y v)) rest words in
      let select = before-words (words_of_select (select_from k o os f g gs w)) (words_of_order y ++ words_of_window v) all in
      let listed = after-words (words_of_output o) _ select.1 in
      let from = after-words (words_of_outputs os) _ listed in
      from-bound start (item_of o ∷ items_of os) g gs w y v b (words_of_where w) from.1 is

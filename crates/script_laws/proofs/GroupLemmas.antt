-- A query that groups is well grouped.
use Rattle.std.proofs.Common.{◌≡◌, ◌<◌, ◌≤◌, ◌^◌, ◌++◌, ◌∷◌, ◌∙◌, ℕ, List, Bool, true, false, length, length-append, map, Ok, sym, ap, subst, arith}
use Rattle.std.proofs.lemmas.List.{length-map}
use Rattle.std.proofs.lemmas.List.Elements.{All-append, All-nil}
use Rattle.pg_base.specs.Names.{IsName}
use Rattle.pg_base.specs.declared.limits.TheConstants.{MOST_SCRIPT_BYTES}
use Rattle.pg_base.specs.declared.numbers.TableNo.{TableNo}
use Rattle.catalog.specs.Contents.{Contents, IsLawful}
use Rattle.catalog.specs.Range.{type_in}
use Rattle.eq_classes.specs.Clauses.{ClassTable}
use Rattle.eq_classes.specs.Holding.{IsClassTable}
use Rattle.path_cost.specs.work.Columns.{IsOver}
use Rattle.sql_lex.specs.declared.tokens.Token.{Token}
use Rattle.sql_lex.specs.Ends.{token_at}
use Rattle.sql_lex.specs.Words.{AreWords}
use Rattle.sql_grammar.specs.Faults.{terminals}
use Rattle.sql_grammar.specs.FromParts.{groups_after}
use Rattle.sql_grammar.specs.Reading.{terminal_of}
use Rattle.sql_grammar.specs.Spelled.{IsSpelled}
use Rattle.sql_grammar.specs.Syntax.{Group, GroupBy, no_group_by, GroupedItem, plain_item, GroupedSelect, distinct_select, grouped_select, Mark, MaybeExplain, unexplained, explained, OrderBy, Output, Where, Statement, empty, create_table, create_index, query, copy, sizes, column_statistics, analyze, advise as advise_tree, check, use_plan, grouped}
use Rattle.sql_grammar.specs.Terminals.{Terminal, t_key}
use Rattle.sql_grammar.specs.declared.class.Word.TheVariants.{From, Select}
use Rattle.sql_grammar.specs.Words.{words_of_ending, words_of_group, words_of_group_by, words_of_grouped, words_of_grouped_item, words_of_grouped_items, words_of_groups, words_of_maybe_explain, words_of_order, words_of_output, words_of_outputs, words_of_where}
use Rattle.expr_reader.specs.Conditions.{next}
use Rattle.expr_reader.specs.Lists.{further_parts}
use Rattle.expr_reader.proofs.Named.{AreNamed, named-from}
use Rattle.expr_reader.proofs.TypedLemmas.{next-done}
use Rattle.ddl_reader.specs.Tables.{Definition, table, sizes_for, statistics_for, data_for, analysis_of}
use Rattle.sql_query.specs.Grouped.{GroupedQuery}
use Rattle.sql_query.specs.Queries.{Query}
use Rattle.sql_query.specs.Worlds.{World}
use Rattle.query_reader.specs.Binding.{conjuncts_written, past_limit, query_with}
use Rattle.query_reader.specs.From.{Joined, nothing_joined, with_groups}
use Rattle.query_reader.specs.Scope.{scope_of}
use Rattle.query_reader.specs.Wanted.{wanted_by}
use Rattle.query_reader.specs.declared.wanted.Wanted.{Wanted}
use Rattle.query_reader.specs.declared.wanted.Wanted.TheVariants as wanted
use Rattle.query_reader.proofs.AliasLemmas.{HasNames, after-words, all-named}
use Rattle.query_reader.proofs.GrowLemmas.{some-groups}
use Rattle.group_query.specs.Grouping.{IsWellGrouped, given_groups}
use Rattle.group_reader.specs.Binding.{BoundGroups, bound_groups, grouped_with, groups_over, lists_bound}
use Rattle.group_reader.specs.work.Binding.{grouper}
use Rattle.group_reader.specs.work.Selected.{IsGroupedByItself}
use Rattle.group_reader.specs.work.Written.{columns_written, listed_of, sorts_written}
use Rattle.group_reader.proofs.MeaningLemmas.{lists-same}
use Rattle.group_reader.proofs.OverLemmas.{each-listed, few-columns, few-items}
use Rattle.group_reader.proofs.WellLemmas.{are-lists, grouped-of-lists}
use Rattle.statements.specs.Accepted.{Defines, Does, IsRead, asked_as, asked_of_groups}
use Rattle.store.specs.Actions.{Action}
use Rattle.world_laws.proofs.BoundLemmas.{where-over, within-limit}
use Rattle.world_laws.proofs.JoinedLemmas.{IsJoined, groups-joined, nothing-is}
use Rattle.world_laws.specs.work.Definitions.{Comes}
use Rattle.world_laws.specs.LawfulWorlds.{IsLawfulWorld}
use Rattle.script_laws.specs.Reached.{AreGroupsBoundIn}
use Rattle.script_laws.proofs.ReadLemmas.{carried}
use Rattle.script_laws.proofs.ShownLemmas.{HasFewKeys, distinct-few, grouped-few, output-words, outputs-words}
use Rattle.script_laws.proofs.TokenLemmas.{few-words}

over-grouped : (j : Joined) (start : Token) (items : List GroupedItem) (w : Where) (distinct : Bool) (by : GroupBy) (y : OrderBy) (b : BoundGroups) → IsJoined j → HasNames j → 0 < length j.range → length items < 2 ^ 32 → HasFewKeys items distinct by y →
    groups_over start items w (grouper distinct by) y j ≡ Ok b → (classes : ClassTable) → IsClassTable (given_groups j.contents (grouped_with classes b)) classes → IsGroupedByItself j.contents (grouped_with classes b)
over-grouped j start items w distinct by y b h names some few keys is =
    let scope = scope_of j.contents j.range in
    let type_of = type_in j.contents j.range in
    let ks = next-done (conjuncts_written scope type_of w) _ b is in
    let ls = next-done (lists_bound scope type_of items (grouper distinct by) y) _ b ks.rest in
    let kept = within-limit start (past_limit (j.conjuncts ++ ks.value)) _ b ls.rest in
    let are = are-lists scope type_of (map listed_of items) distinct (columns_written by) (sorts_written y) ls.value (lists-same scope type_of items distinct by y ∙ ls.first) in
    let long = length-map items listed_of in
    subst (λ (x : BoundGroups). (classes : ClassTable) → IsClassTable (given_groups j.contents (grouped_with classes x)) classes → IsGroupedByItself j.contents (grouped_with classes x)) kept.1
    (λ classes own. grouped-of-lists j.contents j.range h.are some names (j.conjuncts ++ ks.value)
    (All-append (IsOver j.contents j.range) j.conjuncts ks.value h.over (where-over j w ks.value h ks.first))
    kept.0 classes ls.value (map listed_of items) distinct (columns_written by) (sorts_written y) are own (omega (arith, long, few)) (keys j.contents j.range h.are ls.value are))

module _ (c : Contents) (lawful : IsLawful c) where
  from-grouped : (start : Token) (items : List GroupedItem) (g : Group) (gs : List (Mark × Group)) (w : Where) (distinct : Bool) (by : GroupBy) (y : OrderBy) (behind : List Terminal) (b : BoundGroups) →
      AreNamed (words_of_group g ++ (words_of_groups gs ++ behind)) → length items < 2 ^ 32 → HasFewKeys items distinct by y →
      next (with_groups (nothing_joined c) (g ∷ groups_after gs)) (groups_over start items w (grouper distinct by) y) ≡ Ok b →
      (classes : ClassTable) → IsClassTable (given_groups c (grouped_with classes b)) classes → IsGroupedByItself c (grouped_with classes b)
  from-grouped start items g gs w distinct by y behind b words few keys means classes own =
      let d = next-done (with_groups (nothing_joined c) (g ∷ groups_after gs)) (groups_over start items w (grouper distinct by) y) b means in
      let j = d.value in
      let h = groups-joined (nothing_joined c) j (g ∷ groups_after gs) (nothing-is c lawful) d.first in
      let grown = some-groups (nothing_joined c) j g (groups_after gs) d.first in
      let names = all-named (nothing_joined c) j g gs behind words (All-nil (λ (r : TableNo × List ℕ). IsName r.1)) d.first in
      let more = grown.more in
      subst (λ (k : Contents). (t : ClassTable) → IsClassTable (given_groups k (grouped_with t b)) t → IsGroupedByItself k (grouped_with t b)) grown.contents
      (over-grouped j start items w distinct by y b h names (omega (arith, more)) few keys d.rest) classes own

  grouped-bound : (start : Token) (q : GroupedSelect) (b : BoundGroups) → AreNamed (words_of_grouped q) → length (words_of_grouped q) ≤ 2 ^ 24 → bound_groups c start q ≡ Ok b →
      (classes : ClassTable) → IsClassTable (given_groups c (grouped_with classes b)) classes → IsGroupedByItself c (grouped_with classes b)
  grouped-bound start (grouped_select i is f g gs w by p y e) b words many means classes own =
      let items = i ∷ further_parts (λ (x : GroupedItem). x) is in
      let tail = words_of_where w ++ (words_of_group_by by ++ (words_of_order y ++ words_of_ending e)) in
      let from = words_of_group g ++ (words_of_groups gs ++ tail) in
      let behind = after-words (words_of_grouped_items is) (t_key From f ∷ from) (after-words (words_of_grouped_item i) (words_of_grouped_items is ++ t_key From f ∷ from) words) in
      let listed = few-items i is (t_key From f) from in
      let same = ap length (each-listed is) in
      let mapped = length-map (further_parts (λ (x : GroupedItem). x) is) listed_of in
      let columns = few-columns by in
      let l1 = length-append (words_of_grouped_item i) (words_of_grouped_items is ++ t_key From f ∷ from) in
      let l2 = length-append (words_of_grouped_items is) (t_key From f ∷ from) in
      let l3 = length-append (words_of_group g) (words_of_groups gs ++ tail) in
      let l4 = length-append (words_of_groups gs) tail in
      let l5 = length-append (words_of_where w) (words_of_group_by by ++ (words_of_order y ++ words_of_ending e)) in
      let l6 = length-append (words_of_group_by by) (words_of_order y ++ words_of_ending e) in
      from-grouped start items g gs w false by y tail b behind.1 (omega (arith, many, listed, same, mapped)) (grouped-few items by y (omega (arith, many, columns, l1, l2, l3, l4, l5, l6))) means classes own
  grouped-bound start (distinct_select u k o os f g gs w y e) b words many means classes own =
      let outputs = o ∷ further_parts (λ (x : Output). x) os in
      let tail = words_of_where w ++ (words_of_order y ++ words_of_ending e) in
      let from = words_of_group g ++ (words_of_groups gs ++ tail) in
      let behind = after-words (words_of_outputs os) (t_key From f ∷ from) (after-words (words_of_output o) (words_of_outputs os ++ t_key From f ∷ from) words.1) in
      let first = output-words o in
      let others = outputs-words os in
      let l1 = length-append (words_of_output o) (words_of_outputs os ++ t_key From f ∷ from) in
      let l2 = length-append (words_of_outputs os) (t_key From f ∷ from) in
      let few : length outputs < 2 ^ 23 = omega (arith, many, first, others, l1, l2) in
      let mapped = length-map outputs plain_item in
      from-grouped start (map plain_item outputs) g gs w true no_group_by y tail b behind.1 (omega (arith, few, mapped)) (distinct-few outputs y few) means classes own

asked-none : (c : Contents) (how : Wanted) (q : Query) → AreGroupsBoundIn c (asked_as how q)
asked-none c wanted.Rows q = tt
asked-none c wanted.Plan q = tt
asked-none c wanted.Table q = tt

groups-asked : (c : Contents) (e : MaybeExplain) (g : GroupedQuery) → IsWellGrouped c g → AreGroupsBoundIn c (asked_of_groups e g)
groups-asked c unexplained g h = h
groups-asked c (explained t) g h = h

comes-none : (w : World) (d : Definition) (action : Action) → Comes w d action → AreGroupsBoundIn w.contents action
comes-none w (table name names columns) action h = subst (AreGroupsBoundIn w.contents) (sym h.1) tt
comes-none w (sizes_for t rows pages) action h = subst (AreGroupsBoundIn w.contents) (sym h.2) tt
comes-none w (statistics_for t column s) action h = subst (AreGroupsBoundIn w.contents) (sym h.1) tt
comes-none w (data_for t start) action h = subst (AreGroupsBoundIn w.contents) (sym h.3) tt
comes-none w (analysis_of t) action h = subst (AreGroupsBoundIn w.contents) (sym h) tt

module _ (w : World) (text : List ℕ) (from : ℕ) (tokens : List Token) (short : length text ≤ MOST_SCRIPT_BYTES) (words : AreWords text from tokens) (h : IsLawfulWorld w) where
  defines-none : (x : Statement) (action : Action) (next : ℕ) → Defines w text tokens x action next → AreGroupsBoundIn w.contents action
  defines-none x action next d = comes-none w d.0.definition action (carried w text tokens d.0.definition action next d.2)

  does-grouped : (x : Statement) (action : Action) (next : ℕ) → IsSpelled x text tokens → Does w text tokens x action next → AreGroupsBoundIn w.contents action
  does-grouped (empty e) action next spelled d = subst (AreGroupsBoundIn w.contents) (sym d.0) tt
  does-grouped (create_index y) action next spelled d = subst (AreGroupsBoundIn w.contents) (sym d.3) tt
  does-grouped (query x) action next spelled d = subst (AreGroupsBoundIn w.contents) (sym d.2.2) (asked-none w.contents (wanted_by (terminals text tokens)) (query_with d.2.0 d.0))
  does-grouped (create_table k t n o c cs m e) action next spelled d = defines-none (create_table k t n o c cs m e) action next d
  does-grouped (sizes k n r p e) action next spelled d = defines-none (sizes k n r p e) action next d
  does-grouped (column_statistics k n c z nulls commons bounds e) action next spelled d = defines-none (column_statistics k n c z nulls commons bounds e) action next d
  does-grouped (copy k n null) action next spelled d = defines-none (copy k n null) action next d
  does-grouped (analyze p k n e) action next spelled d = defines-none (analyze p k n e) action next d
  does-grouped (advise_tree x) action next spelled d = subst (AreGroupsBoundIn w.contents) (sym d.0.3) tt
  does-grouped (check p k x s) action next spelled d = subst (AreGroupsBoundIn w.contents) (sym d.acts) tt
  does-grouped (use_plan p k l q y s) action next spelled d = subst (AreGroupsBoundIn w.contents) (sym d.acts) tt
  does-grouped (grouped p e k q) action next spelled d =
      let all = subst AreNamed (sym spelled.words) (named-from text from tokens 0 words spelled.limits) in
      let named = after-words (words_of_maybe_explain e) (t_key Select k ∷ words_of_grouped q) all in
      let few = few-words text from tokens words in
      let count = ap length spelled.words in
      let each = length-map tokens (terminal_of text) in
      let long = length-append (words_of_maybe_explain e) (t_key Select k ∷ words_of_grouped q) in
      let bound = grouped-bound w.contents h.contents (token_at tokens 0) q d.0 named.1 (omega (arith, short, few, count, each, long)) d.1 d.2.classes d.2.own in
      subst (AreGroupsBoundIn w.contents) (sym d.2.asks) (groups-asked w.contents e (grouped_with d.2.classes d.0) bound.0)

pub read-grouped : (w : World) (text : List ℕ) (from : ℕ) (action : Action) (next : ℕ) → length text ≤ MOST_SCRIPT_BYTES → IsLawfulWorld w → IsRead w text from action next → AreGroupsBoundIn w.contents action
read-grouped w text from action next short h r = does-grouped w text from r.0 short r.1 h r.2.statement action next r.2.spelled r.2.does

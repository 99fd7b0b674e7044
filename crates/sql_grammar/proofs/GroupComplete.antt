-- The walk takes every SELECT statement, without calls and GROUP BY and with them.
use Rattle.std.proofs.Common.{◌≡◌, ℕ, ◌≤◌, Bool, true, false, ◌||◌, List, [], ◌∷◌, ◌++◌, Some, None, refl, ap, ◌∙◌, arith, cond}
use Rattle.sql_lex.specs.declared.tokens.Token.{Token}
use Rattle.sql_grammar.specs.Terminals.{Terminal, Said, free, t_key, t_mark, t_name, t_number}
use Rattle.sql_grammar.specs.declared.class.Free.TheVariants.{Distinct, By}
use Rattle.sql_grammar.specs.declared.class.Word.TheVariants.{From, Table}
use Rattle.sql_grammar.specs.declared.class.Symbol.TheVariants.{Close, Comma}
use Rattle.sql_grammar.specs.declared.offered.TheConstants.{READS_GROUPS, READS_TABLE, READS_WINDOW}
use Rattle.sql_grammar.specs.declared.table.Item.{Item}
use Rattle.sql_grammar.specs.declared.table.Item.TheVariants.{MoreResults, Result, AfterDistinct, FirstItem, Keyword, Sign, FreeWord, Label, Digits, Whole, Ends, Query, MaybeAlias, MoreJoins, MoreGroups, MaybeWhere, AfterQualifier, MaybeOrder, MaybeLimit, MaybeOffset, PlainItem, PlainTail, GroupedItem, AfterGroupedName, MoreGroupedItems, Argument, MaybeGroup, MoreGroupColumns}
use Rattle.sql_grammar.specs.Syntax.{IsOffered, Key, Mark, Col, bare, qualified, Output, every, every_of, one, Group, Where, Select, select_from, Ending, semicolon, text_end, OrderBy, no_order, order_by, no_limit, most_rows, Offset, no_offset, skipped_rows, WindowTree, window, no_explain, explain, explain_table, OrderedSelect, ordered_select, Argument as ArgumentTree, all_rows, of_col, GroupedItem as ItemTree, plain_item, call, GroupBy, no_group_by, group_by, is_call, has_call, is_written, Holds, GroupedSelect, distinct_select, grouped_select}
use Rattle.sql_grammar.specs.Words.{words_of_col, words_of_output, words_of_outputs, words_of_group, words_of_groups, words_of_where, words_of_select, words_of_order, words_of_offset, words_of_window, words_of_ending, words_of_ordered, words_of_argument, words_of_grouped_item, words_of_grouped_items, words_of_group_columns, words_of_group_by, words_of_grouped, levels_of_group, levels_of_groups, levels_of_where, levels_of_select, levels_of_ordered, levels_of_grouped}
use Rattle.sql_grammar.specs.work.Machine.{depth_of, by_row, takes_then, takes_all}
use Rattle.sql_grammar.proofs.Complete.{Passes, EndsSelect, skip, apart, ending, outputs}
use Rattle.sql_grammar.proofs.WindowComplete.{ending-window, window-order, skipped, windowed}
use Rattle.sql_grammar.proofs.OrderComplete.{order, after-select, ended}
use Rattle.sql_grammar.proofs.FromComplete.{tables}
use Rattle.sql_grammar.proofs.GroupRules.{list-words}

-- what is awaited behind FROM and WHERE, by whether a call has come
abbrev tail_of : Bool → List Item
tail_of true = MaybeGroup ∷ MaybeOrder ∷ Ends ∷ []
tail_of false = PlainTail ∷ []

tail-flat : (c : Bool) → depth_of (tail_of c) ≡ 0
tail-flat true = refl
tail-flat false = refl

items-pass : (is : List (Mark × ItemTree)) (f : Key) (ts : List Terminal) → Passes AfterGroupedName (words_of_grouped_items is ++ t_key From f ∷ ts)
items-pass [] f ts = refl
items-pass (i ∷ is) f ts = refl

-- what follows GROUP BY, or stands in its place
pub record EndsGroupBy (ts : List Terminal) : Type 0 where
  pub qualifier : Passes AfterQualifier ts
  pub more : Passes MoreGroupColumns ts
  pub none : Passes MaybeGroup ts

order-group : (y : OrderBy) (e : Ending) → EndsGroupBy (words_of_order y ++ words_of_ending e)
order-group no_order (semicolon t) = record { qualifier = refl; more = refl; none = refl }
order-group no_order (text_end t) = record { qualifier = refl; more = refl; none = refl }
order-group (order_by k b o os) e = record { qualifier = refl; more = refl; none = refl }

module _ (limit : ℕ) where
  -- the first item of a list is taken as any other
  first-list : (o : Output) (os : List (Mark × Output)) (f : Key) (ts : List Terminal) →
      takes_all limit (words_of_output o ++ (words_of_outputs os ++ t_key From f ∷ ts)) (FirstItem ∷ []) ≡ takes_all limit (words_of_output o ++ (words_of_outputs os ++ t_key From f ∷ ts)) (PlainItem ∷ [])
  first-list (every s) os f ts = refl
  first-list (every_of (free Distinct t) d s) os f ts = refl
  first-list (every_of n d s) os f ts = refl
  first-list (one (bare (free Distinct t))) [] f ts = refl
  first-list (one (bare (free Distinct t))) (u ∷ os) f ts = refl
  first-list (one (bare n)) os f ts = refl
  first-list (one (qualified (free Distinct t) d n)) os f ts = refl
  first-list (one (qualified q d n)) os f ts = refl

  first-items : (i : ItemTree) (is : List (Mark × ItemTree)) (f : Key) (ts : List Terminal) →
      takes_all limit (words_of_grouped_item i ++ (words_of_grouped_items is ++ t_key From f ∷ ts)) (FirstItem ∷ []) ≡ takes_all limit (words_of_grouped_item i ++ (words_of_grouped_items is ++ t_key From f ∷ ts)) (PlainItem ∷ [])
  first-items (plain_item (every s)) is f ts = refl
  first-items (plain_item (every_of (free Distinct t) d s)) is f ts = refl
  first-items (plain_item (every_of n d s)) is f ts = refl
  first-items (plain_item (one (bare (free Distinct t)))) [] f ts = refl
  first-items (plain_item (one (bare (free Distinct t)))) (u ∷ is) f ts = refl
  first-items (plain_item (one (bare n))) is f ts = refl
  first-items (plain_item (one (qualified (free Distinct t) d n))) is f ts = refl
  first-items (plain_item (one (qualified q d n))) is f ts = refl
  first-items (call (free Distinct t) o a c) is f ts = refl
  first-items (call n o a c) is f ts = refl

  -- the list behind DISTINCT
  distinct-first : (o : Output) (ts : List Terminal) →
      takes_all limit (words_of_output o ++ ts) (AfterDistinct ∷ []) ≡
      takes_all limit (words_of_output o ++ ts) (Result ∷ MoreResults ∷ Keyword From ∷ Label ∷ MaybeAlias ∷ MoreJoins ∷ MoreGroups ∷ MaybeWhere ∷ MaybeOrder ∷ Ends ∷ [])
  distinct-first (every s) ts = refl
  distinct-first (every_of n d s) ts = refl
  distinct-first (one (bare n)) ts = refl
  distinct-first (one (qualified q d n)) ts = refl

  -- an item without a call, before a comma and before FROM
  comma-item : (o : Output) (m : Mark) (ts : List Terminal) → takes_all limit (words_of_output o ++ t_mark Comma m ∷ ts) (PlainItem ∷ []) ≡ takes_all limit ts (PlainItem ∷ [])
  comma-item (every s) m ts = refl
  comma-item (every_of n d s) m ts = refl
  comma-item (one (bare n)) m ts = refl
  comma-item (one (qualified q d n)) m ts = refl

  last-item : (o : Output) (f : Key) (ts : List Terminal) →
      takes_all limit (words_of_output o ++ t_key From f ∷ ts) (PlainItem ∷ []) ≡ takes_all limit ts (Label ∷ MaybeAlias ∷ MoreJoins ∷ MoreGroups ∷ MaybeWhere ∷ PlainTail ∷ [])
  last-item (every s) f ts = refl
  last-item (every_of n d s) f ts = refl
  last-item (one (bare n)) f ts = refl
  last-item (one (qualified q d n)) f ts = refl

  plain-list : (o : Output) (os : List (Mark × Output)) (f : Key) (ts : List Terminal) →
      takes_all limit (words_of_output o ++ (words_of_outputs os ++ t_key From f ∷ ts)) (PlainItem ∷ []) ≡ takes_all limit ts (Label ∷ MaybeAlias ∷ MoreJoins ∷ MoreGroups ∷ MaybeWhere ∷ PlainTail ∷ [])
  plain-list o [] f ts = last-item o f ts
  plain-list o ((m, u) ∷ os) f ts =
      comma-item o m ((words_of_output u ++ words_of_outputs os) ++ t_key From f ∷ ts) ∙ (apart limit (words_of_output u) (words_of_outputs os) (t_key From f ∷ ts) (PlainItem ∷ []) ∙ plain-list u os f ts)

  -- the window of a SELECT without an order
  most-tail : (b : Bool) → IsOffered b → (n : Said) (u : Offset) (e : Ending) →
      takes_then (by_row limit (cond b (Some (Digits ∷ MaybeOffset ∷ Ends ∷ [])) None) false [] None) (takes_all limit (t_number n ∷ (words_of_offset u ++ words_of_ending e))) ≡ true
  most-tail true p n u e = skipped limit u (Ends ∷ []) (words_of_ending e) (ending-window e).skipped ∙ ending limit e
  most-tail false p n u e = absurd p

  skipped-tail : (b : Bool) → IsOffered b → (n : Said) (e : Ending) →
      takes_then (by_row limit (cond b (Some (Digits ∷ Ends ∷ [])) None) false [] None) (takes_all limit (t_number n ∷ words_of_ending e)) ≡ true
  skipped-tail true p n e = ending limit e
  skipped-tail false p n e = absurd p

  plain-tail : (y : OrderBy) (v : WindowTree) (e : Ending) → takes_all limit (words_of_order y ++ (words_of_window v ++ words_of_ending e)) (PlainTail ∷ []) ≡ true
  plain-tail (order_by k b o os) v e =
      order limit (order_by k b o os) (MaybeLimit ∷ MaybeOffset ∷ Ends ∷ []) (words_of_window v ++ words_of_ending e) (window-order v (words_of_ending e) (ending-window e)) ∙
      (windowed limit v (words_of_ending e) (Ends ∷ []) (ending-window e) ∙ ending limit e)
  plain-tail no_order (window (most_rows p k n) u) e = most-tail READS_WINDOW p n u e
  plain-tail no_order (window no_limit (skipped_rows p k n)) e = skipped-tail READS_WINDOW p n e
  plain-tail no_order (window no_limit no_offset) (semicolon t) = refl
  plain-tail no_order (window no_limit no_offset) (text_end t) = refl

  -- a SELECT without calls and GROUP BY, behind its first word
  plain-behind : (o : Output) (os : List (Mark × Output)) (f : Key) (g : Group) (gs : List (Mark × Group)) (w : Where) (y : OrderBy) (v : WindowTree) (e : Ending) →
      levels_of_group g ≤ limit → levels_of_groups gs ≤ limit → levels_of_where w ≤ limit →
      takes_all limit ((words_of_output o ++ (words_of_outputs os ++ t_key From f ∷ (words_of_group g ++ (words_of_groups gs ++ words_of_where w)))) ++ (words_of_order y ++ (words_of_window v ++ words_of_ending e)))
      (FirstItem ∷ []) ≡ true
  plain-behind o os f g gs w y v e first others low =
      let last : List Terminal = words_of_order y ++ (words_of_window v ++ words_of_ending e) in
      ap (λ l. takes_all limit l (FirstItem ∷ [])) (list-words (words_of_output o) (words_of_outputs os) (words_of_group g) (words_of_groups gs) (words_of_where w) last (t_key From f)) ∙
      (first-list o os f (words_of_group g ++ (words_of_groups gs ++ (words_of_where w ++ last))) ∙ (plain-list o os f (words_of_group g ++ (words_of_groups gs ++ (words_of_where w ++ last))) ∙
      (tables limit g gs w (PlainTail ∷ []) last (omega (arith, first)) (omega (arith, others)) (omega (arith, low))
      (after-select limit y (words_of_window v ++ words_of_ending e) (window-order v (words_of_ending e) (ending-window e))) ∙ plain-tail y v e)))

  -- (TABLE) behind EXPLAIN
  tabled : (b : Bool) → IsOffered b → (t m : Token) (q : Select) (y : OrderBy) (v : WindowTree) (e : Ending) → levels_of_select q ≤ limit →
      takes_then (by_row limit (cond b (Some (Keyword Table ∷ Sign Close ∷ Query ∷ MaybeOrder ∷ MaybeLimit ∷ MaybeOffset ∷ Ends ∷ [])) None) false [] None)
      (takes_all limit (t_key Table t ∷ t_mark Close m ∷ (words_of_select q ++ (words_of_order y ++ (words_of_window v ++ words_of_ending e))))) ≡ true
  tabled true p t m q y v e low = ended limit q y v e low
  tabled false p t m q y v e low = absurd p

  pub ordered : (x : OrderedSelect) → levels_of_ordered x ≤ limit → takes_all limit (words_of_ordered x) (Whole ∷ []) ≡ true
  ordered (ordered_select no_explain (select_from k o os f g gs w) y v e) low = plain-behind o os f g gs w y v e (omega (arith, low)) (omega (arith, low)) (omega (arith, low))
  ordered (ordered_select (explain j) (select_from k o os f g gs w) y v e) low = plain-behind o os f g gs w y v e (omega (arith, low)) (omega (arith, low)) (omega (arith, low))
  ordered (ordered_select (explain_table p k o t m) q y v e) low = tabled READS_TABLE p t m q y v e low

  argument : (a : ArgumentTree) (m : Mark) (s : List Item) (ts : List Terminal) → takes_all limit (words_of_argument a ++ t_mark Close m ∷ ts) (Argument ∷ Sign Close ∷ s) ≡ takes_all limit ts s
  argument (all_rows t) m s ts = refl
  argument (of_col (bare n)) m s ts = refl
  argument (of_col (qualified q d n)) m s ts = refl

  grouped-item : (i : ItemTree) (s : List Item) (ts : List Terminal) → Passes AfterGroupedName ts → takes_all limit (words_of_grouped_item i ++ ts) (GroupedItem ∷ s) ≡ takes_all limit ts s
  grouped-item (plain_item (every m)) s ts p = refl
  grouped-item (plain_item (every_of n d m)) s ts p = refl
  grouped-item (plain_item (one (bare n))) s ts p = skip limit AfterGroupedName s ts refl p
  grouped-item (plain_item (one (qualified q d n))) s ts p = refl
  grouped-item (call n o a m) s ts p = apart limit (words_of_argument a) (t_mark Close m ∷ []) ts (Argument ∷ Sign Close ∷ s) ∙ argument a m s ts

  grouped-items : (is : List (Mark × ItemTree)) (f : Key) (s : List Item) (ts : List Terminal) →
      takes_all limit (words_of_grouped_items is ++ t_key From f ∷ ts) (MoreGroupedItems ∷ s) ≡ takes_all limit ts s
  grouped-items [] f s ts = refl
  grouped-items ((m, i) ∷ is) f s ts =
      apart limit (words_of_grouped_item i) (words_of_grouped_items is) (t_key From f ∷ ts) (GroupedItem ∷ MoreGroupedItems ∷ s) ∙
      (grouped-item i (MoreGroupedItems ∷ s) (words_of_grouped_items is ++ t_key From f ∷ ts) (items-pass is f ts) ∙ grouped-items is f s ts)

  -- the first call, behind its name and `(`
  first-call : (b : Bool) → IsOffered b → (a : ArgumentTree) (m : Mark) (is : List (Mark × ItemTree)) (f : Key) (ts : List Terminal) →
      takes_then (by_row limit (cond b (Some (Argument ∷ Sign Close ∷ MoreGroupedItems ∷ Label ∷ MaybeAlias ∷ MoreJoins ∷ MoreGroups ∷ MaybeWhere ∷ MaybeGroup ∷ MaybeOrder ∷ Ends ∷ [])) None) false [] None)
      (takes_all limit ((words_of_argument a ++ t_mark Close m ∷ []) ++ (words_of_grouped_items is ++ t_key From f ∷ ts))) ≡
      takes_all limit ts (Label ∷ MaybeAlias ∷ MoreJoins ∷ MoreGroups ∷ MaybeWhere ∷ MaybeGroup ∷ MaybeOrder ∷ Ends ∷ [])
  first-call true p a m is f ts =
      let rest : List Item = Label ∷ MaybeAlias ∷ MoreJoins ∷ MoreGroups ∷ MaybeWhere ∷ MaybeGroup ∷ MaybeOrder ∷ Ends ∷ [] in
      apart limit (words_of_argument a) (t_mark Close m ∷ []) (words_of_grouped_items is ++ t_key From f ∷ ts) (Argument ∷ Sign Close ∷ MoreGroupedItems ∷ rest) ∙
      (argument a m (MoreGroupedItems ∷ rest) (words_of_grouped_items is ++ t_key From f ∷ ts) ∙ grouped-items is f rest ts)
  first-call false p a m is f ts = absurd p

  grouped-list : IsOffered READS_GROUPS → (i : ItemTree) (is : List (Mark × ItemTree)) (f : Key) (ts : List Terminal) →
      takes_all limit (words_of_grouped_item i ++ (words_of_grouped_items is ++ t_key From f ∷ ts)) (PlainItem ∷ []) ≡
      takes_all limit ts (Label ∷ MaybeAlias ∷ MoreJoins ∷ MoreGroups ∷ MaybeWhere ∷ tail_of (is_call i || has_call is))
  grouped-list p (plain_item o) [] f ts = last-item o f ts
  grouped-list p (plain_item o) ((m, i) ∷ is) f ts =
      comma-item o m ((words_of_grouped_item i ++ words_of_grouped_items is) ++ t_key From f ∷ ts) ∙
      (apart limit (words_of_grouped_item i) (words_of_grouped_items is) (t_key From f ∷ ts) (PlainItem ∷ []) ∙ grouped-list p i is f ts)
  grouped-list p (call n o a m) is f ts = first-call READS_GROUPS p a m is f ts

  column : (c : Col) (s : List Item) (ts : List Terminal) → Passes AfterQualifier ts → takes_all limit (words_of_col c ++ ts) (Label ∷ AfterQualifier ∷ s) ≡ takes_all limit ts s
  column (bare n) s ts p = skip limit AfterQualifier s ts refl p
  column (qualified q d n) s ts p = refl

  columns : (c : Col) (cs : List (Mark × Col)) (s : List Item) (ts : List Terminal) → EndsGroupBy ts →
      takes_all limit (words_of_col c ++ (words_of_group_columns cs ++ ts)) (Label ∷ AfterQualifier ∷ MoreGroupColumns ∷ s) ≡ takes_all limit ts s
  columns c [] s ts p = column c (MoreGroupColumns ∷ s) ts p.qualifier ∙ skip limit MoreGroupColumns s ts refl p.more
  columns c ((m, d) ∷ cs) s ts p =
      column c (MoreGroupColumns ∷ s) (words_of_group_columns ((m, d) ∷ cs) ++ ts) refl ∙
      (apart limit (words_of_col d) (words_of_group_columns cs) ts (Label ∷ AfterQualifier ∷ MoreGroupColumns ∷ s) ∙ columns d cs s ts p)

  order-end : (y : OrderBy) (e : Ending) → takes_all limit (words_of_order y ++ words_of_ending e) (MaybeOrder ∷ Ends ∷ []) ≡ true
  order-end y e = order limit y (Ends ∷ []) (words_of_ending e) (ending-window e).order ∙ ending limit e

  -- GROUP BY behind its two words
  group-columns : (c : Col) (cs : List (Mark × Col)) (y : OrderBy) (e : Ending) →
      takes_all limit ((words_of_col c ++ words_of_group_columns cs) ++ (words_of_order y ++ words_of_ending e)) (Label ∷ AfterQualifier ∷ MoreGroupColumns ∷ MaybeOrder ∷ Ends ∷ []) ≡ true
  group-columns c cs y e =
      apart limit (words_of_col c) (words_of_group_columns cs) (words_of_order y ++ words_of_ending e) (Label ∷ AfterQualifier ∷ MoreGroupColumns ∷ MaybeOrder ∷ Ends ∷ []) ∙
      (columns c cs (MaybeOrder ∷ Ends ∷ []) (words_of_order y ++ words_of_ending e) (order-group y e) ∙ order-end y e)

  plain-grouping : (b : Bool) → IsOffered b → (t : Token) (c : Col) (cs : List (Mark × Col)) (y : OrderBy) (e : Ending) →
      takes_then (by_row limit (cond b (Some (FreeWord By ∷ Label ∷ AfterQualifier ∷ MoreGroupColumns ∷ MaybeOrder ∷ Ends ∷ [])) None) false [] None)
      (takes_all limit (t_name (free By t) ∷ ((words_of_col c ++ words_of_group_columns cs) ++ (words_of_order y ++ words_of_ending e)))) ≡ true
  plain-grouping true p t c cs y e = group-columns c cs y e
  plain-grouping false p t c cs y e = absurd p

  tails : IsOffered READS_GROUPS → (c : Bool) (b : GroupBy) (y : OrderBy) (e : Ending) → Holds (is_written b || c) →
      takes_all limit (words_of_group_by b ++ (words_of_order y ++ words_of_ending e)) (tail_of c) ≡ true
  tails p true no_group_by y e h = skip limit MaybeGroup (MaybeOrder ∷ Ends ∷ []) (words_of_order y ++ words_of_ending e) refl (order-group y e).none ∙ order-end y e
  tails p true (group_by k t c cs) y e h = group-columns c cs y e
  tails p false no_group_by y e h = absurd h
  tails p false (group_by k t c cs) y e h = plain-grouping READS_GROUPS p t c cs y e

  after-tables : (b : GroupBy) (y : OrderBy) (e : Ending) → EndsSelect (words_of_group_by b ++ (words_of_order y ++ words_of_ending e))
  after-tables no_group_by y e = after-select limit y (words_of_ending e) (ending-window e).order
  after-tables (group_by k t c cs) y e = record { alias = refl; joins = refl; groups = refl; condition = refl; expr = record { conj = record { atom = refl; ands = refl }; ors = refl } }

  pub grouped-select : IsOffered READS_GROUPS → (q : GroupedSelect) → levels_of_grouped q ≤ limit → takes_all limit (words_of_grouped q) (FirstItem ∷ []) ≡ true
  grouped-select p (distinct_select u d o os f g gs w y e) low =
      let last : List Terminal = words_of_order y ++ words_of_ending e in
      let rest : List Terminal = words_of_group g ++ (words_of_groups gs ++ (words_of_where w ++ last)) in
      distinct-first o (words_of_outputs os ++ t_key From f ∷ rest) ∙
      (outputs limit o os (Keyword From ∷ Label ∷ MaybeAlias ∷ MoreJoins ∷ MoreGroups ∷ MaybeWhere ∷ MaybeOrder ∷ Ends ∷ []) (t_key From f ∷ rest) refl refl ∙
      (tables limit g gs w (MaybeOrder ∷ Ends ∷ []) last (omega (arith, low)) (omega (arith, low)) (omega (arith, low)) (after-tables no_group_by y e) ∙ order-end y e))
  grouped-select p (grouped_select i is f g gs w b h y e) low =
      let c : Bool = is_call i || has_call is in
      let last : List Terminal = words_of_group_by b ++ (words_of_order y ++ words_of_ending e) in
      let flat = tail-flat c in
      first-items i is f (words_of_group g ++ (words_of_groups gs ++ (words_of_where w ++ last))) ∙
      (grouped-list p i is f (words_of_group g ++ (words_of_groups gs ++ (words_of_where w ++ last))) ∙
      (tables limit g gs w (tail_of c) last (omega (arith, low, flat)) (omega (arith, low, flat)) (omega (arith, low, flat)) (after-tables b y e) ∙ tails p c b y e h))

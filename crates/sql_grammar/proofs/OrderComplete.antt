-- The walk takes every SELECT with its order.
use Rattle.std.proofs.Common.{◌≡◌, ℕ, ◌+◌, ◌≤◌, true, List, [], ◌∷◌, ◌++◌, refl, sym, ap, ◌∙◌, arith, append_assoc, append-nil}
use Rattle.sql_grammar.specs.Terminals.{Terminal}
use Rattle.sql_grammar.specs.declared.table.Item.{Item}
use Rattle.sql_grammar.specs.declared.table.Item.TheVariants.{Label, Ends, Query, AfterQualifier, MaybeDirection, MaybeNulls, MaybeOrder, MoreOrderings, MaybeLimit, MaybeOffset}
use Rattle.sql_grammar.specs.Syntax.{Mark, bare, qualified, Select, Ending, WindowTree}
use Rattle.sql_grammar.specs.Words.{words_of_select, words_of_window, words_of_ending, levels_of_select}
use Rattle.sql_grammar.specs.Syntax.{Direction, no_direction, ascending, descending, NullsEnd, no_nulls_end, nulls_first, nulls_last, Ordering, ordering, OrderBy, no_order, order_by, WindowedSelect, windowed_select}
use Rattle.sql_grammar.specs.Words.{words_of_direction, words_of_nulls_end, words_of_ordering, words_of_orderings, words_of_order, words_of_windowed, levels_of_windowed}
use Rattle.sql_grammar.specs.work.Machine.{depth_of, takes_all}
use Rattle.sql_grammar.proofs.Complete.{Passes, EndsSelect, skip, apart, ending}
use Rattle.sql_grammar.proofs.WindowComplete.{EndsOrder, EndsWindow, window-order, ending-window, nothing-window, windowed}
use Rattle.sql_grammar.proofs.FromComplete.{selected}

-- what follows a column of an order
pub record EndsOrdering (ts : List Terminal) : Type 0 where
  pub qualifier : Passes AfterQualifier ts
  pub direction : Passes MaybeDirection ts
  pub nulls : Passes MaybeNulls ts

after-direction : (z : NullsEnd) (ts : List Terminal) → Passes MaybeDirection ts → Passes MaybeDirection (words_of_nulls_end z ++ ts)
after-direction no_nulls_end ts p = p
after-direction (nulls_first n f) ts p = refl
after-direction (nulls_last n l) ts p = refl

after-column : (d : Direction) (z : NullsEnd) (ts : List Terminal) → Passes AfterQualifier ts → Passes AfterQualifier ((words_of_direction d ++ words_of_nulls_end z) ++ ts)
after-column no_direction no_nulls_end ts p = p
after-column no_direction (nulls_first n f) ts p = refl
after-column no_direction (nulls_last n l) ts p = refl
after-column (ascending k) z ts p = refl
after-column (descending k) z ts p = refl

-- the words of a SELECT with its order and its window, and those behind them
pub windowed-words : (q y w ts : List Terminal) → (q ++ (y ++ w)) ++ ts ≡ q ++ (y ++ (w ++ ts))
windowed-words q y w ts = append_assoc q (y ++ w) ts ∙ ap (λ l. q ++ l) (append_assoc y w ts)

module _ (limit : ℕ) where
  direction : (d : Direction) (s : List Item) (ts : List Terminal) → Passes MaybeDirection ts → takes_all limit (words_of_direction d ++ ts) (MaybeDirection ∷ s) ≡ takes_all limit ts s
  direction no_direction s ts p = skip limit MaybeDirection s ts refl p
  direction (ascending k) s ts p = refl
  direction (descending k) s ts p = refl

  nulls-end : (z : NullsEnd) (s : List Item) (ts : List Terminal) → Passes MaybeNulls ts → takes_all limit (words_of_nulls_end z ++ ts) (MaybeNulls ∷ s) ≡ takes_all limit ts s
  nulls-end no_nulls_end s ts p = skip limit MaybeNulls s ts refl p
  nulls-end (nulls_first n f) s ts p = refl
  nulls-end (nulls_last n l) s ts p = refl

  pub sorted : (d : Direction) (z : NullsEnd) (s : List Item) (ts : List Terminal) → Passes MaybeDirection ts → Passes MaybeNulls ts →
      takes_all limit ((words_of_direction d ++ words_of_nulls_end z) ++ ts) (MaybeDirection ∷ MaybeNulls ∷ s) ≡ takes_all limit ts s
  sorted d z s ts p q =
      apart limit (words_of_direction d) (words_of_nulls_end z) ts (MaybeDirection ∷ MaybeNulls ∷ s) ∙
      (direction d (MaybeNulls ∷ s) (words_of_nulls_end z ++ ts) (after-direction z ts p) ∙ nulls-end z s ts q)

  one : (o : Ordering) (s : List Item) (ts : List Terminal) → EndsOrdering ts →
      takes_all limit (words_of_ordering o ++ ts) (Label ∷ AfterQualifier ∷ MaybeDirection ∷ MaybeNulls ∷ s) ≡ takes_all limit ts s
  one (ordering (bare n) d z) s ts p =
      skip limit AfterQualifier (MaybeDirection ∷ MaybeNulls ∷ s) ((words_of_direction d ++ words_of_nulls_end z) ++ ts) refl (after-column d z ts p.qualifier) ∙ sorted d z s ts p.direction p.nulls
  one (ordering (qualified q m n) d z) s ts p = sorted d z s ts p.direction p.nulls

  all : (o : Ordering) (os : List (Mark × Ordering)) (s : List Item) (ts : List Terminal) → EndsOrdering ts → Passes MoreOrderings ts →
      takes_all limit (words_of_ordering o ++ (words_of_orderings os ++ ts)) (Label ∷ AfterQualifier ∷ MaybeDirection ∷ MaybeNulls ∷ MoreOrderings ∷ s) ≡ takes_all limit ts s
  all o [] s ts p q = one o (MoreOrderings ∷ s) ts p ∙ skip limit MoreOrderings s ts refl q
  all o ((m, u) ∷ os) s ts p q =
      one o (MoreOrderings ∷ s) (words_of_orderings ((m, u) ∷ os) ++ ts) (record { qualifier = refl; direction = refl; nulls = refl }) ∙
      (apart limit (words_of_ordering u) (words_of_orderings os) ts (Label ∷ AfterQualifier ∷ MaybeDirection ∷ MaybeNulls ∷ MoreOrderings ∷ s) ∙ all u os s ts p q)

  pub order : (y : OrderBy) (s : List Item) (ts : List Terminal) → EndsOrder ts → takes_all limit (words_of_order y ++ ts) (MaybeOrder ∷ s) ≡ takes_all limit ts s
  order no_order s ts p = skip limit MaybeOrder s ts refl p.none
  order (order_by k b o os) s ts p =
      apart limit (words_of_ordering o) (words_of_orderings os) ts (Label ∷ AfterQualifier ∷ MaybeDirection ∷ MaybeNulls ∷ MoreOrderings ∷ s) ∙
      all o os s ts (record { qualifier = p.qualifier; direction = p.direction; nulls = p.nulls }) p.more

  pub after-select : (y : OrderBy) (ts : List Terminal) → EndsOrder ts → EndsSelect (words_of_order y ++ ts)
  after-select no_order ts p = p.select
  after-select (order_by k b o os) ts p = record { alias = refl; joins = refl; groups = refl; condition = refl; expr = record { conj = record { atom = refl; ands = refl }; ors = refl } }

  -- a SELECT with its order and its window, in parts
  rest : (q : Select) (y : OrderBy) (v : WindowTree) (s : List Item) (ts : List Terminal) → levels_of_select q + depth_of s ≤ limit → EndsWindow ts →
      takes_all limit (words_of_select q ++ (words_of_order y ++ (words_of_window v ++ ts))) (Query ∷ MaybeOrder ∷ MaybeLimit ∷ MaybeOffset ∷ s) ≡ takes_all limit ts s
  rest q y v s ts low ends =
      let last : List Terminal = words_of_window v ++ ts in
      selected limit q (MaybeOrder ∷ MaybeLimit ∷ MaybeOffset ∷ s) (words_of_order y ++ last) (omega (arith, low)) (after-select y last (window-order v ts ends)) ∙
      (order y (MaybeLimit ∷ MaybeOffset ∷ s) last (window-order v ts ends) ∙ windowed limit v ts s ends)

  pub windowed-select : (x : WindowedSelect) (s : List Item) (ts : List Terminal) → levels_of_windowed x + depth_of s ≤ limit → EndsWindow ts →
      takes_all limit (words_of_windowed x ++ ts) (Query ∷ MaybeOrder ∷ MaybeLimit ∷ MaybeOffset ∷ s) ≡ takes_all limit ts s
  windowed-select (windowed_select q y v) s ts low ends =
      ap (λ l. takes_all limit l (Query ∷ MaybeOrder ∷ MaybeLimit ∷ MaybeOffset ∷ s)) (windowed-words (words_of_select q) (words_of_order y) (words_of_window v) ts) ∙ rest q y v s ts low ends

  -- without a window
  pub ordered-select : (q : Select) (y : OrderBy) (s : List Item) (ts : List Terminal) → levels_of_select q + depth_of s ≤ limit → EndsOrder ts →
      takes_all limit (words_of_select q ++ (words_of_order y ++ ts)) (Query ∷ MaybeOrder ∷ s) ≡ takes_all limit ts s
  ordered-select q y s ts low ends = selected limit q (MaybeOrder ∷ s) (words_of_order y ++ ts) (omega (arith, low)) (after-select y ts ends) ∙ order y s ts ends

  pub windowed_alone : (x : WindowedSelect) → levels_of_windowed x ≤ limit → takes_all limit (words_of_windowed x) (Query ∷ MaybeOrder ∷ MaybeLimit ∷ MaybeOffset ∷ []) ≡ true
  windowed_alone x low = ap (λ l. takes_all limit l (Query ∷ MaybeOrder ∷ MaybeLimit ∷ MaybeOffset ∷ [])) (sym (append-nil (words_of_windowed x))) ∙
      windowed-select x [] [] (omega (arith, low)) nothing-window

  -- up to a statement's end
  pub ended : (q : Select) (y : OrderBy) (v : WindowTree) (e : Ending) → levels_of_select q ≤ limit →
      takes_all limit (words_of_select q ++ (words_of_order y ++ (words_of_window v ++ words_of_ending e))) (Query ∷ MaybeOrder ∷ MaybeLimit ∷ MaybeOffset ∷ Ends ∷ []) ≡ true
  ended q y v e low = rest q y v (Ends ∷ []) (words_of_ending e) (omega (arith, low)) (ending-window e) ∙ ending limit e

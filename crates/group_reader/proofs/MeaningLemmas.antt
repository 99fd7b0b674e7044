-- The lists of a grouped SELECT mean as they are written what their trees mean.
use Rattle.std.proofs.Common.{◌≡◌, Bool, true, false, Contains, List, [], ◌∷◌, ◌++◌, map, Option, Some, None, Result, Ok, Err, refl, ap, ap₂, ◌∙◌}
use Rattle.pg_base.specs.declared.faults.Fault.{Fault}
use Rattle.pg_value.specs.declared.value.SqlType.{SqlType}
use Rattle.pg_expr.specs.declared.operand.ColRef.{ColRef}
use Rattle.eq_classes.specs.declared.order.OrderItem.{OrderItem}
use Rattle.sql_lex.specs.declared.tokens.Token.{Token}
use Rattle.sql_grammar.specs.Faults.{bytes_of}
use Rattle.sql_grammar.specs.Terminals.{Ident, token_of}
use Rattle.sql_grammar.specs.Syntax.{Mark, Col, bare, qualified, all_rows, of_col, GroupedItem, plain_item, call, GroupBy, no_group_by, group_by, Ordering, ordering, OrderBy, no_order, order_by}
use Rattle.expr_reader.specs.declared.cursor.Spelled.{Spelled}
use Rattle.expr_reader.specs.Lists.{before_all, bound_each, further_parts}
use Rattle.expr_reader.specs.Conditions.{next, column_of}
use Rattle.expr_reader.specs.Scope.{Scope, columns_in_scope, look_up}
use Rattle.expr_reader.proofs.OperandLemmas.{is-found}
use Rattle.expr_reader.proofs.ScopeLemmas.{found-seen}
use Rattle.sql_query.specs.declared.grouped.Item.{Item}
use Rattle.query_reader.specs.Order.{order_item, order_items}
use Rattle.group_reader.specs.declared.parts.Part.{Part}
use Rattle.group_reader.specs.declared.written.Column.{Column}
use Rattle.group_reader.specs.Binding.{BoundLists, all_grouped, group_columns, item_parts, grouping_columns, known_call, list_parts, lists_bound, order_words, over_column, over_rows, shown_columns, word_of_ordering}
use Rattle.group_reader.specs.work.Binding.{grouper}
use Rattle.group_reader.specs.work.Meaning.{column_by, column_meant, keys_said, known, last_word, list_said, listed_said, lists_said, part_alone, sorting_said, then_parts}
use Rattle.group_reader.specs.work.Written.{column_written, columns_written, listed_of, sorting_of, sorts_written}

-- a column that is meant is visible
column-by-seen : (scope : Scope) (q : Option Spelled) (n : Spelled) (x : ColRef) → column_by scope q n ≡ Ok x → Contains (columns_in_scope scope) x
column-by-seen scope None n x is = found-seen scope None n.bytes x (is-found (look_up scope None n.bytes) n.token n.token x is)
column-by-seen scope (Some q) n x is = found-seen scope (Some q.bytes) n.bytes x (is-found (look_up scope (Some q.bytes) n.bytes) q.token n.token x is)

pub column-seen : (scope : Scope) (k : Column) (x : ColRef) → column_meant scope k ≡ Ok x → Contains (columns_in_scope scope) x
column-seen scope k x is = column-by-seen scope k.qualifier k.name x is

-- one step after another, where the later one says the same
next-same : {A B : Type 0} (m : Result A Fault) (f g : A → Result B Fault) → ((x : A) → f x ≡ g x) → next m f ≡ next m g
next-same (Ok x) f g same = same x
next-same (Err e) f g same = refl

-- parts bound one by one
each-parts : {A B C : Type 0} (f : B → Result C Fault) (g : A → Result C Fault) (write : A → B) → ((x : A) → f (write x) ≡ g x) → (xs : List (Mark × A)) → bound_each f (further_parts write xs) ≡ bound_each g (further_parts (λ (x : A). x) xs)
each-parts f g write same [] = refl
each-parts f g write same ((m, x) ∷ xs) = ap₂ before_all (same x) (each-parts f g write same xs)

module _ (scope : Scope) where
  column-same : (c : Col) → column_meant scope (column_written c) ≡ column_of scope c
  column-same (bare n) = refl
  column-same (qualified q d n) = refl

  groups-same : (b : GroupBy) → bound_each (column_meant scope) (columns_written b) ≡ group_columns scope b
  groups-same no_group_by = refl
  groups-same (group_by k t c cs) = ap₂ before_all (column-same c) (each-parts (column_meant scope) (column_of scope) column_written column-same cs)

  keys-same : (d : Bool) (b : GroupBy) (ps : List Part) → keys_said scope d (columns_written b) ps ≡ grouping_columns scope (grouper d b) ps
  keys-same true b ps = refl
  keys-same false b ps = groups-same b

  sort-same : (shown : List ColRef) (o : Ordering) → sorting_said scope shown (sorting_of o) ≡ order_item scope shown o
  sort-same shown (ordering (bare n) d z) = refl
  sort-same shown (ordering (qualified q t n) d z) = refl

  orders-same : (shown : List ColRef) (y : OrderBy) → bound_each (sorting_said scope shown) (sorts_written y) ≡ order_items scope shown y
  orders-same shown no_order = refl
  orders-same shown (order_by k b o os) = ap₂ before_all (sort-same shown o) (each-parts (sorting_said scope shown) (order_item scope shown) sorting_of (sort-same shown) os)

last-same : (o : Ordering) → last_word (sorting_of o) ≡ word_of_ordering o
last-same (ordering (bare n) d z) = refl
last-same (ordering (qualified q t n) d z) = refl

lasts-same : (os : List (Mark × Ordering)) → map last_word (further_parts sorting_of os) ≡ map word_of_ordering (further_parts (λ (o : Ordering). o) os)
lasts-same [] = refl
lasts-same ((m, o) ∷ os) = ap₂ (λ (t : Token) (ts : List Token). t ∷ ts) (last-same o) (lasts-same os)

words-same : (y : OrderBy) → map last_word (sorts_written y) ≡ order_words y
words-same no_order = refl
words-same (order_by k b o os) = ap₂ (λ (t : Token) (ts : List Token). t ∷ ts) (last-same o) (lasts-same os)

known-same : (n : Ident) (o : Option Item) → next (known (token_of n) o) part_alone ≡ known_call n o
known-same n None = refl
known-same n (Some i) = refl

then-next : (a b : Result (List Part) Fault) → then_parts a b ≡ next a (λ ps. next b (λ qs. Ok (ps ++ qs)))
then-next (Ok ps) (Ok qs) = refl
then-next (Ok ps) (Err f) = refl
then-next (Err f) b = refl

module _ (scope : Scope) (type_of : ColRef → SqlType) where
  call-same : (n : Ident) (r : Result ColRef Fault) →
      next (next r (λ x. known (token_of n) (over_column (bytes_of n) (type_of x) x))) part_alone ≡ next r (λ x. known_call n (over_column (bytes_of n) (type_of x) x))
  call-same n (Ok x) = known-same n (over_column (bytes_of n) (type_of x) x)
  call-same n (Err f) = refl

  listed-same : (i : GroupedItem) → listed_said scope type_of (listed_of i) ≡ item_parts scope type_of i
  listed-same (plain_item o) = refl
  listed-same (call n o (all_rows s) m) = known-same n (over_rows (bytes_of n))
  listed-same (call n o (of_col c) m) =
      ap (λ (r : Result ColRef Fault). next (next r (λ x. known (token_of n) (over_column (bytes_of n) (type_of x) x))) part_alone) (column-same scope c) ∙ call-same n (column_of scope c)

  list-same : (is : List GroupedItem) → list_said scope type_of (map listed_of is) ≡ list_parts scope type_of is
  list-same [] = refl
  list-same (i ∷ is) = ap₂ then_parts (listed-same i) (list-same is) ∙ then-next (item_parts scope type_of i) (list_parts scope type_of is)

  pub lists-same : (is : List GroupedItem) (d : Bool) (b : GroupBy) (y : OrderBy) → lists_said scope type_of (map listed_of is) d (columns_written b) (sorts_written y) ≡ lists_bound scope type_of is (grouper d b) y
  lists-same is d b y =
      let K : List Part → List OrderItem → List Token → List ColRef → Result BoundLists Fault = λ ps ordered words keys. all_grouped keys ps ordered words (record { parts = ps; order = ordered; keys = keys }) in
      let G : List Part → List OrderItem → List Token → Result (List ColRef) Fault → Result BoundLists Fault = λ ps ordered words m. next m (K ps ordered words) in
      let O : List Part → List Token → Result (List ColRef) Fault → Result (List OrderItem) Fault → Result BoundLists Fault = λ ps words k m. next m (λ ordered. G ps ordered words k) in
      let L : (List Part → Result (List OrderItem) Fault) → List Token → (List Part → Result (List ColRef) Fault) → Result (List Part) Fault → Result BoundLists Fault = λ o words k m. next m (λ ps. O ps words (k ps) (o ps)) in
      let said : List Part → Result (List ColRef) Fault = keys_said scope d (columns_written b) in
      ap (L (λ ps. bound_each (sorting_said scope (shown_columns ps)) (sorts_written y)) (map last_word (sorts_written y)) said) (list-same is)
      ∙ (next-same (list_parts scope type_of is) (λ ps. O ps (map last_word (sorts_written y)) (said ps) (bound_each (sorting_said scope (shown_columns ps)) (sorts_written y)))
      (λ ps. O ps (map last_word (sorts_written y)) (said ps) (order_items scope (shown_columns ps) y))
      (λ ps. ap (O ps (map last_word (sorts_written y)) (said ps)) (orders-same scope (shown_columns ps) y))
      ∙ (ap (λ (ws : List Token). L (λ ps. order_items scope (shown_columns ps) y) ws said (list_parts scope type_of is)) (words-same y)
      ∙ next-same (list_parts scope type_of is) (λ ps. O ps (order_words y) (said ps) (order_items scope (shown_columns ps) y))
      (λ ps. O ps (order_words y) (grouping_columns scope (grouper d b) ps) (order_items scope (shown_columns ps) y))
      (λ ps. ap (λ (k : Result (List ColRef) Fault). O ps (order_words y) k (order_items scope (shown_columns ps) y)) (keys-same scope d b ps))))

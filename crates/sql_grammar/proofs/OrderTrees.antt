-- A list of words is spelled by one SELECT with its order.
use Rattle.std.proofs.Common.{◌≡◌, Bool, true, false, List, [], ◌∷◌, ◌++◌, drop, refl, sym, ap, ◌∙◌}
use Rattle.std.proofs.lemmas.List.{append_assoc}
use Rattle.sql_grammar.specs.declared.class.Word.TheVariants.{Asc, Desc, Order}
use Rattle.sql_grammar.specs.declared.class.Free.TheVariants.{Nulls}
use Rattle.sql_grammar.specs.declared.class.Symbol.TheVariants.{Close, Comma, Dot}
use Rattle.sql_grammar.specs.declared.offered.TheConstants.{READS_TABLE}
use Rattle.sql_grammar.specs.Terminals.{Terminal, free, t_key, t_mark, t_name, t_semicolon, t_end}
use Rattle.sql_grammar.specs.Syntax.{Mark, Select, select_from, no_limit, most_rows, no_offset, skipped_rows, WindowTree, window, Ending, semicolon, text_end}
use Rattle.sql_grammar.specs.Syntax.{Direction, no_direction, ascending, descending, NullsEnd, no_nulls_end, nulls_first, nulls_last, Ordering, ordering, OrderBy, no_order, order_by, WindowedSelect, windowed_select, no_explain, explain, explain_table, OrderedSelect, ordered_select}
use Rattle.sql_grammar.specs.work.Unique.{ends_col, ends_windowed}
use Rattle.sql_grammar.specs.Words.{words_of_col, words_of_select, words_of_window, words_of_ending}
use Rattle.sql_grammar.specs.Words.{words_of_direction, words_of_nulls_end, words_of_ordering, words_of_orderings, words_of_order, words_of_windowed, words_of_ordered}
use Rattle.sql_grammar.proofs.ExprTrees.{one_col, one_offered, tested}
use Rattle.sql_grammar.proofs.Trees.{ends_select, one_ending}
use Rattle.sql_grammar.proofs.WindowTrees.{one_window}
use Rattle.sql_grammar.proofs.FromTrees.{one_select}
use Rattle.sql_grammar.proofs.OrderComplete.{windowed-words}

-- neither ASC nor DESC is next
abbrev ends_direction : List Terminal → Bool
ends_direction (t_key Asc _ ∷ _) = false
ends_direction (t_key Desc _ ∷ _) = false
ends_direction _ = true

-- nor NULLS
abbrev ends_nulls_end : List Terminal → Bool
ends_nulls_end (t_name (free Nulls _) ∷ _) = false
ends_nulls_end _ = true

-- none of these
abbrev pub ends_sort : List Terminal → Bool
ends_sort (t_key Asc _ ∷ _) = false
ends_sort (t_key Desc _ ∷ _) = false
ends_sort (t_name (free Nulls _) ∷ _) = false
ends_sort _ = true

sort-direction : (z : NullsEnd) (x : List Terminal) → ends_sort x ≡ true → ends_direction (words_of_nulls_end z ++ x) ≡ true
sort-direction no_nulls_end (t_key Asc _ ∷ x) h = absurd (cc)
sort-direction no_nulls_end (t_key Desc _ ∷ x) h = absurd (cc)
sort-direction no_nulls_end _ h = refl
sort-direction (nulls_first n f) x h = refl
sort-direction (nulls_last n l) x h = refl

sort-nulls : (x : List Terminal) → ends_sort x ≡ true → ends_nulls_end x ≡ true
sort-nulls (t_name (free Nulls _) ∷ x) h = absurd (cc)
sort-nulls _ h = refl

one_direction : (a b : Direction) (x y : List Terminal) → ends_direction x ≡ true → ends_direction y ≡ true → words_of_direction a ++ x ≡ words_of_direction b ++ y → (a ≡ b) × (x ≡ y)
one_direction no_direction no_direction x y h k e = (refl, e)
one_direction no_direction (ascending j) x y h k e = absurd (tested ends_direction x (t_key Asc j ∷ y) h refl e)
one_direction no_direction (descending j) x y h k e = absurd (tested ends_direction x (t_key Desc j ∷ y) h refl e)
one_direction (ascending i) no_direction x y h k e = absurd (tested ends_direction y (t_key Asc i ∷ x) k refl (sym e))
one_direction (ascending i) (ascending j) x y h k e = let key : i ≡ j = cc in (ap ascending key, ap (drop 1) e)
one_direction (ascending i) (descending j) x y h k e = absurd (cc)
one_direction (descending i) no_direction x y h k e = absurd (tested ends_direction y (t_key Desc i ∷ x) k refl (sym e))
one_direction (descending i) (ascending j) x y h k e = absurd (cc)
one_direction (descending i) (descending j) x y h k e = let key : i ≡ j = cc in (ap descending key, ap (drop 1) e)

one_nulls_end : (a b : NullsEnd) (x y : List Terminal) → ends_nulls_end x ≡ true → ends_nulls_end y ≡ true → words_of_nulls_end a ++ x ≡ words_of_nulls_end b ++ y → (a ≡ b) × (x ≡ y)
one_nulls_end no_nulls_end no_nulls_end x y h k e = (refl, e)
one_nulls_end no_nulls_end (nulls_first n f) x y h k e = absurd (tested ends_nulls_end x (words_of_nulls_end (nulls_first n f) ++ y) h refl e)
one_nulls_end no_nulls_end (nulls_last n l) x y h k e = absurd (tested ends_nulls_end x (words_of_nulls_end (nulls_last n l) ++ y) h refl e)
one_nulls_end (nulls_first n f) no_nulls_end x y h k e = absurd (tested ends_nulls_end y (words_of_nulls_end (nulls_first n f) ++ x) k refl (sym e))
one_nulls_end (nulls_first n f) (nulls_first m g) x y h k e = let word : n ≡ m = cc in let end : f ≡ g = cc in (cc (word, end), ap (drop 2) e)
one_nulls_end (nulls_first n f) (nulls_last m g) x y h k e = absurd (cc)
one_nulls_end (nulls_last n l) no_nulls_end x y h k e = absurd (tested ends_nulls_end y (words_of_nulls_end (nulls_last n l) ++ x) k refl (sym e))
one_nulls_end (nulls_last n l) (nulls_first m g) x y h k e = absurd (cc)
one_nulls_end (nulls_last n l) (nulls_last m g) x y h k e = let word : n ≡ m = cc in let end : l ≡ g = cc in (cc (word, end), ap (drop 2) e)

-- a direction and an end of the NULLs
pub one_sort : (d f : Direction) (z v : NullsEnd) (x y : List Terminal) → ends_sort x ≡ true → ends_sort y ≡ true →
    (words_of_direction d ++ words_of_nulls_end z) ++ x ≡ (words_of_direction f ++ words_of_nulls_end v) ++ y → (d ≡ f) × (z ≡ v) × (x ≡ y)
one_sort d f z v x y h k e =
    let (first, more) = one_direction d f (words_of_nulls_end z ++ x) (words_of_nulls_end v ++ y) (sort-direction z x h) (sort-direction v y k)
    (sym (append_assoc (words_of_direction d) (words_of_nulls_end z) x) ∙ (e ∙ append_assoc (words_of_direction f) (words_of_nulls_end v) y)) in
    let (second, rest) = one_nulls_end z v x y (sort-nulls x h) (sort-nulls y k) more in
    (first, second, rest)

-- nothing that goes on a column of an order is next
abbrev ends_ordering : List Terminal → Bool
ends_ordering (t_mark Dot _ ∷ _) = false
ends_ordering (t_key Asc _ ∷ _) = false
ends_ordering (t_key Desc _ ∷ _) = false
ends_ordering (t_name (free Nulls _) ∷ _) = false
ends_ordering _ = true

ordering-sort : (x : List Terminal) → ends_ordering x ≡ true → ends_sort x ≡ true
ordering-sort (t_key Asc _ ∷ _) h = absurd (cc)
ordering-sort (t_key Desc _ ∷ _) h = absurd (cc)
ordering-sort (t_name (free Nulls _) ∷ _) h = absurd (cc)
ordering-sort _ h = refl

ordering-col : (x : List Terminal) → ends_ordering x ≡ true → ends_col x ≡ true
ordering-col (t_mark Dot _ ∷ _) h = absurd (cc)
ordering-col _ h = refl

column-ends : (d : Direction) (z : NullsEnd) (x : List Terminal) → ends_ordering x ≡ true → ends_col ((words_of_direction d ++ words_of_nulls_end z) ++ x) ≡ true
column-ends no_direction no_nulls_end x h = ordering-col x h
column-ends no_direction (nulls_first n f) x h = refl
column-ends no_direction (nulls_last n l) x h = refl
column-ends (ascending k) z x h = refl
column-ends (descending k) z x h = refl

one_ordering : (o u : Ordering) (x y : List Terminal) → ends_ordering x ≡ true → ends_ordering y ≡ true → words_of_ordering o ++ x ≡ words_of_ordering u ++ y → (o ≡ u) × (x ≡ y)
one_ordering (ordering c d z) (ordering b f v) x y h k e =
    let (col, more) = one_col c b ((words_of_direction d ++ words_of_nulls_end z) ++ x) ((words_of_direction f ++ words_of_nulls_end v) ++ y) (column-ends d z x h) (column-ends f v y k)
    (sym (append_assoc (words_of_col c) (words_of_direction d ++ words_of_nulls_end z) x) ∙ (e ∙ append_assoc (words_of_col b) (words_of_direction f ++ words_of_nulls_end v) y)) in
    let (direction, end, rest) = one_sort d f z v x y (ordering-sort x h) (ordering-sort y k) more in
    (cc (col, direction, end), rest)

-- no further column is next either
abbrev ends_order : List Terminal → Bool
ends_order (t_mark Comma _ ∷ _) = false
ends_order x = ends_ordering x

order-ordering : (x : List Terminal) → ends_order x ≡ true → ends_ordering x ≡ true
order-ordering (t_mark Comma _ ∷ _) h = absurd (cc)
order-ordering (t_mark Dot _ ∷ _) h = absurd (cc)
order-ordering (t_key Asc _ ∷ _) h = absurd (cc)
order-ordering (t_key Desc _ ∷ _) h = absurd (cc)
order-ordering (t_name (free Nulls _) ∷ _) h = absurd (cc)
order-ordering _ h = refl

more-ends : (os : List (Mark × Ordering)) (x : List Terminal) → ends_order x ≡ true → ends_ordering (words_of_orderings os ++ x) ≡ true
more-ends [] x h = order-ordering x h
more-ends ((m, o) ∷ os) x h = refl

one_orderings : (os us : List (Mark × Ordering)) (x y : List Terminal) → ends_order x ≡ true → ends_order y ≡ true → words_of_orderings os ++ x ≡ words_of_orderings us ++ y → (os ≡ us) × (x ≡ y)
one_orderings [] [] x y h k e = (refl, e)
one_orderings [] ((n, u) ∷ us) x y h k e = absurd (tested ends_order x (words_of_orderings ((n, u) ∷ us) ++ y) h refl e)
one_orderings ((m, o) ∷ os) [] x y h k e = absurd (tested ends_order y (words_of_orderings ((m, o) ∷ os) ++ x) k refl (sym e))
one_orderings ((m, o) ∷ os) ((n, u) ∷ us) x y h k e =
    let comma : m ≡ n = cc (e) in
    let (first, more) = one_ordering o u (words_of_orderings os ++ x) (words_of_orderings us ++ y) (more-ends os x h) (more-ends us y k)
    (sym (append_assoc (words_of_ordering o) (words_of_orderings os) x) ∙ (ap (drop 1) e ∙ append_assoc (words_of_ordering u) (words_of_orderings us) y)) in
    let (others, rest) = one_orderings os us x y h k more in
    (cc (comma, first, others), rest)

-- no ORDER is next
abbrev pub orderless : List Terminal → Bool
orderless (t_key Order _ ∷ _) = false
orderless _ = true

-- what may stand behind an order
pub record EndsOrder (x : List Terminal) : Type 0 where
  pub order : ends_order x ≡ true
  pub none : orderless x ≡ true
  pub select : ends_select x ≡ true

pub windowed-order : (x : List Terminal) → ends_windowed x ≡ true → EndsOrder x
windowed-order [] h = record { order = refl; none = refl; select = refl }
windowed-order (t_mark Close _ ∷ _) h = record { order = refl; none = refl; select = refl }
windowed-order (t_semicolon _ ∷ _) h = record { order = refl; none = refl; select = refl }
windowed-order (t_end _ ∷ _) h = record { order = refl; none = refl; select = refl }
windowed-order _ h = absurd (cc)

pub window-ends : (w : WindowTree) (x : List Terminal) → ends_windowed x ≡ true → EndsOrder (words_of_window w ++ x)
window-ends (window (most_rows p k n) o) x h = record { order = refl; none = refl; select = refl }
window-ends (window no_limit (skipped_rows p k n)) x h = record { order = refl; none = refl; select = refl }
window-ends (window no_limit no_offset) x h = windowed-order x h

pub one_order : (a b : OrderBy) (x y : List Terminal) → EndsOrder x → EndsOrder y → words_of_order a ++ x ≡ words_of_order b ++ y → (a ≡ b) × (x ≡ y)
one_order no_order no_order x y p q h = (refl, h)
one_order no_order (order_by j b u us) x y p q h = absurd (tested orderless x (words_of_order (order_by j b u us) ++ y) p.none refl h)
one_order (order_by i b o os) no_order x y p q h = absurd (tested orderless y (words_of_order (order_by i b o os) ++ x) q.none refl (sym h))
one_order (order_by i b o os) (order_by j c u us) x y p q h =
    let key : i ≡ j = cc (h) in
    let word : b ≡ c = cc (h) in
    let (first, more) = one_ordering o u (words_of_orderings os ++ x) (words_of_orderings us ++ y) (more-ends os x p.order) (more-ends us y q.order)
    (sym (append_assoc (words_of_ordering o) (words_of_orderings os) x) ∙ (ap (drop 2) h ∙ append_assoc (words_of_ordering u) (words_of_orderings us) y)) in
    let (others, last) = one_orderings os us x y p.order q.order more in
    (cc (key, word, first, others), last)

pub order-select : (a : OrderBy) (x : List Terminal) → EndsOrder x → ends_select (words_of_order a ++ x) ≡ true
order-select no_order x p = p.select
order-select (order_by k b o os) x p = refl

-- a SELECT with its order
pub one_sorted : (p q : Select) (a b : OrderBy) (x y : List Terminal) → EndsOrder x → EndsOrder y → words_of_select p ++ (words_of_order a ++ x) ≡ words_of_select q ++ (words_of_order b ++ y) →
    (p ≡ q) × (a ≡ b) × (x ≡ y)
one_sorted p q a b x y h k e =
    let (first, more) = one_select p q (words_of_order a ++ x) (words_of_order b ++ y) (order-select a x h) (order-select b y k) e in
    let (order, rest) = one_order a b x y h k more in
    (first, order, rest)

-- a SELECT with its order and its window
one_rest : (p q : Select) (a b : OrderBy) (v w : WindowTree) (x y : List Terminal) → ends_windowed x ≡ true → ends_windowed y ≡ true →
    words_of_select p ++ (words_of_order a ++ (words_of_window v ++ x)) ≡ words_of_select q ++ (words_of_order b ++ (words_of_window w ++ y)) → (p ≡ q) × (a ≡ b) × (v ≡ w) × (x ≡ y)
one_rest p q a b v w x y h k e =
    let (first, order, more) = one_sorted p q a b (words_of_window v ++ x) (words_of_window w ++ y) (window-ends v x h) (window-ends w y k) e in
    let (rows, rest) = one_window v w x y h k more in
    (first, order, rows, rest)

pub one_windowed : (a b : WindowedSelect) (x y : List Terminal) → ends_windowed x ≡ true → ends_windowed y ≡ true → words_of_windowed a ++ x ≡ words_of_windowed b ++ y → (a ≡ b) × (x ≡ y)
one_windowed (windowed_select p a v) (windowed_select q b w) x y h k e =
    let (first, order, rows, rest) = one_rest p q a b v w x y h k
    (sym (windowed-words (words_of_select p) (words_of_order a) (words_of_window v) x) ∙ (e ∙ windowed-words (words_of_select q) (words_of_order b) (words_of_window w) y)) in
    (cc (first, order, rows), rest)

pub ending-windowed : (e : Ending) → ends_windowed (words_of_ending e) ≡ true
ending-windowed (semicolon t) = refl
ending-windowed (text_end t) = refl

one_ended : (p q : Select) (a b : OrderBy) (v w : WindowTree) (e f : Ending) →
    words_of_select p ++ (words_of_order a ++ (words_of_window v ++ words_of_ending e)) ≡ words_of_select q ++ (words_of_order b ++ (words_of_window w ++ words_of_ending f)) → (p ≡ q) × (a ≡ b) × (v ≡ w) × (e ≡ f)
one_ended p q a b v w e f h =
    let (first, order, rows, rest) = one_rest p q a b v w (words_of_ending e) (words_of_ending f) (ending-windowed e) (ending-windowed f) h in
    (first, order, rows, one_ending e f rest)

pub one_ordered : (x y : OrderedSelect) → words_of_ordered x ≡ words_of_ordered y → x ≡ y
one_ordered (ordered_select no_explain p a v e) (ordered_select no_explain q b w f) h = let (first, order, rows, end) = one_ended p q a b v w e f h in cc (first, order, rows, end)
one_ordered (ordered_select no_explain (select_from k o os i g gs c) a v e) (ordered_select (explain j) q b w f) h = absurd (cc)
one_ordered (ordered_select no_explain (select_from k o os i g gs c) a v e) (ordered_select (explain_table j l m n r) q b w f) h = absurd (cc)
one_ordered (ordered_select (explain i) p a v e) (ordered_select no_explain (select_from k o os j g gs c) b w f) h = absurd (cc)
one_ordered (ordered_select (explain i) p a v e) (ordered_select (explain j) q b w f) h =
    let word : i ≡ j = cc (h) in
    let (first, order, rows, end) = one_ended p q a b v w e f (ap (drop 1) h) in
    cc (word, first, order, rows, end)
one_ordered (ordered_select (explain i) (select_from k o os j g gs c) a v e) (ordered_select (explain_table z l m n r) q b w f) h = absurd (cc)
one_ordered (ordered_select (explain_table i l m n r) p a v e) (ordered_select no_explain (select_from k o os j g gs c) b w f) h = absurd (cc)
one_ordered (ordered_select (explain_table z l m n r) p a v e) (ordered_select (explain i) (select_from k o os j g gs c) b w f) h = absurd (cc)
one_ordered (ordered_select (explain_table i k o t m) p a v e) (ordered_select (explain_table j l u r n) q b w f) h =
    let offered = one_offered READS_TABLE i j in
    let word : k ≡ l = cc (h) in
    let open' : o ≡ u = cc (h) in
    let table : t ≡ r = cc (h) in
    let close : m ≡ n = cc (h) in
    let (first, order, rows, end) = one_ended p q a b v w e f (ap (drop 4) h) in
    cc (offered, word, open', table, close, first, order, rows, end)

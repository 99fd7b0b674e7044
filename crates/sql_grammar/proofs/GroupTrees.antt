-- A list of words is spelled by one SELECT with calls or GROUP BY, and by none where a SELECT without them spells it.
use Rattle.std.proofs.Common.{◌≡◌, Bool, true, false, ◌||◌, List, [], ◌∷◌, ◌++◌, drop, refl, sym, ap, ◌∙◌, subst}
use Rattle.std.proofs.lemmas.List.{append_assoc}
use Rattle.sql_grammar.specs.declared.class.Word.TheVariants.{From, Group as GroupKey, Select as SelectKey}
use Rattle.sql_grammar.specs.declared.class.Symbol.TheVariants.{Open, Close, Comma, Dot, Star}
use Rattle.sql_grammar.specs.Terminals.{Terminal, free, t_key, t_mark, t_name}
use Rattle.sql_grammar.specs.declared.class.Free.TheVariants.{Distinct}
use Rattle.sql_grammar.specs.declared.offered.TheConstants.{READS_DISTINCT}
use Rattle.sql_lex.specs.declared.tokens.Token.{Token}
use Rattle.sql_grammar.specs.Syntax.{Key, Mark, Col, bare, qualified, Output, every, every_of, one, Group, Where, Select, select_from, Ending, semicolon, text_end, OrderBy, no_order, order_by, no_limit, most_rows, no_offset, skipped_rows, WindowTree, window, no_explain, explain, explain_table, OrderedSelect, ordered_select, MaybeExplain, unexplained, explained, Argument, all_rows, of_col, GroupedItem, plain_item, call, GroupBy, no_group_by, group_by, is_call, has_call, is_written, Holds, IsGrouped, GroupedSelect, distinct_select, grouped_select}
use Rattle.sql_grammar.specs.work.Unique.{ends_col}
use Rattle.sql_grammar.specs.Words.{words_of_col, words_of_output, words_of_select, words_of_order, words_of_window, words_of_ending, words_of_ordered, words_of_maybe_explain, words_of_argument, words_of_grouped_item, words_of_grouped_items, words_of_group_columns, words_of_group_by, words_of_grouped}
use Rattle.sql_grammar.proofs.ExprTrees.{one_col, one_offered, tested}
use Rattle.sql_grammar.proofs.ListLemmas.{one_list}
use Rattle.sql_grammar.proofs.Trees.{ends_select, fronted, fronted-ends, one_output, one_outputs, one_ending}
use Rattle.sql_grammar.proofs.FromTrees.{behind, select_words, one_behind}
use Rattle.sql_grammar.proofs.OrderTrees.{one_order, order-select, windowed-order, ending-windowed, window-ends}
use Rattle.sql_grammar.proofs.GroupRules.{plain_items, plain-items-words}

one_argument : (a b : Argument) (c d : Mark) (x y : List Terminal) → words_of_argument a ++ t_mark Close c ∷ x ≡ words_of_argument b ++ t_mark Close d ∷ y → (a ≡ b) × (c ≡ d) × (x ≡ y)
one_argument (all_rows s) (all_rows t) c d x y e = let star : s ≡ t = cc (e) in let close : c ≡ d = cc (e) in (ap all_rows star, close, ap (drop 2) e)
one_argument (all_rows s) (of_col (bare n)) c d x y e = absurd (cc (e))
one_argument (all_rows s) (of_col (qualified q f n)) c d x y e = absurd (cc (e))
one_argument (of_col (bare n)) (all_rows t) c d x y e = absurd (cc (e))
one_argument (of_col (qualified q f n)) (all_rows t) c d x y e = absurd (cc (e))
one_argument (of_col a) (of_col b) c d x y e =
    let (same, rest) = one_col a b (t_mark Close c ∷ x) (t_mark Close d ∷ y) refl refl e in
    let close : c ≡ d = cc (rest) in
    (ap of_col same, close, ap (drop 1) rest)

-- nothing that goes on an item is next: no dot and no `(`
abbrev ends_item : List Terminal → Bool
ends_item (t_mark Dot _ ∷ _) = false
ends_item (t_mark Open _ ∷ _) = false
ends_item _ = true

item-col : (x : List Terminal) → ends_item x ≡ true → ends_col x ≡ true
item-col (t_mark Dot _ ∷ _) h = absurd (cc)
item-col _ h = refl

-- an item without a call is none with one
call-apart : (o : Output) (x r : List Terminal) (n : Terminal) (m : Mark) → ends_item x ≡ true → words_of_output o ++ x ≡ n ∷ t_mark Open m ∷ r → ⊥
call-apart (every s) x r n m h e = tested ends_item x (t_mark Open m ∷ r) h refl (ap (drop 1) e)
call-apart (every_of q d s) x r n m h e = absurd (cc (e))
call-apart (one (bare q)) x r n m h e = tested ends_item x (t_mark Open m ∷ r) h refl (ap (drop 1) e)
call-apart (one (qualified q d c)) x r n m h e = absurd (cc (e))

one_item : (a b : GroupedItem) (x y : List Terminal) → ends_item x ≡ true → ends_item y ≡ true → words_of_grouped_item a ++ x ≡ words_of_grouped_item b ++ y → (a ≡ b) × (x ≡ y)
one_item (plain_item o) (plain_item u) x y h k e = let (same, rest) = one_output o u x y (item-col x h) (item-col y k) e in (ap plain_item same, rest)
one_item (plain_item o) (call m p b d) x y h k e = absurd (call-apart o x _ _ p h e)
one_item (call n o a c) (plain_item u) x y h k e = absurd (call-apart u y _ _ o k (sym e))
one_item (call n o a c) (call m p b d) x y h k e =
    let name : n ≡ m = cc (e) in
    let opens : o ≡ p = cc (e) in
    let (of_what, closes, rest) = one_argument a b c d x y (sym (append_assoc (words_of_argument a) (t_mark Close c ∷ []) x) ∙ (ap (drop 2) e ∙ append_assoc (words_of_argument b) (t_mark Close d ∷ []) y)) in
    (cc (name, opens, of_what, closes), rest)

-- further items and the FROM behind them
abbrev listed : List (Mark × GroupedItem) → Key → List Terminal → List Terminal
listed is f x = words_of_grouped_items is ++ t_key From f ∷ x

listed-ends : (is : List (Mark × GroupedItem)) (f : Key) (x : List Terminal) → ends_item (listed is f x) ≡ true
listed-ends [] f x = refl
listed-ends ((m, i) ∷ is) f x = refl

one_items : (is us : List (Mark × GroupedItem)) (f g : Key) (x y : List Terminal) → listed is f x ≡ listed us g y → (is ≡ us) × (f ≡ g) × (x ≡ y)
one_items = one_list GroupedItem words_of_grouped_item words_of_grouped_items (t_key From) ends_item (λ f x. refl)
    (λ m i is f x. ap (λ l. t_mark Comma m ∷ l) (append_assoc (words_of_grouped_item i) (words_of_grouped_items is) (t_key From f ∷ x)))
    (λ f g x y e. cc (e)) (λ f m x y e. absurd (cc (e))) listed-ends one_item

-- no further column is next
abbrev ends_columns : List Terminal → Bool
ends_columns (t_mark Dot _ ∷ _) = false
ends_columns (t_mark Comma _ ∷ _) = false
ends_columns _ = true

columns-col : (cs : List (Mark × Col)) (x : List Terminal) → ends_columns x ≡ true → ends_col (words_of_group_columns cs ++ x) ≡ true
columns-col [] (t_mark Dot _ ∷ _) h = absurd (cc)
columns-col [] _ h = refl
columns-col ((m, c) ∷ cs) x h = refl

one_columns : (cs ds : List (Mark × Col)) (x y : List Terminal) → ends_columns x ≡ true → ends_columns y ≡ true → words_of_group_columns cs ++ x ≡ words_of_group_columns ds ++ y → (cs ≡ ds) × (x ≡ y)
one_columns [] [] x y h k e = (refl, e)
one_columns [] ((n, d) ∷ ds) x y h k e = absurd (tested ends_columns x (words_of_group_columns ((n, d) ∷ ds) ++ y) h refl e)
one_columns ((m, c) ∷ cs) [] x y h k e = absurd (tested ends_columns y (words_of_group_columns ((m, c) ∷ cs) ++ x) k refl (sym e))
one_columns ((m, c) ∷ cs) ((n, d) ∷ ds) x y h k e =
    let comma : m ≡ n = cc (e) in
    let (first, more) = one_col c d (words_of_group_columns cs ++ x) (words_of_group_columns ds ++ y) (columns-col cs x h) (columns-col ds y k)
    (sym (append_assoc (words_of_col c) (words_of_group_columns cs) x) ∙ (ap (drop 1) e ∙ append_assoc (words_of_col d) (words_of_group_columns ds) y)) in
    let (others, rest) = one_columns cs ds x y h k more in
    (cc (comma, first, others), rest)

-- no GROUP is next
abbrev groupless : List Terminal → Bool
groupless (t_key GroupKey _ ∷ _) = false
groupless _ = true

-- an order and an end
abbrev ordered_end : OrderBy → Ending → List Terminal
ordered_end y e = words_of_order y ++ words_of_ending e

end-columns : (y : OrderBy) (e : Ending) → ends_columns (ordered_end y e) ≡ true
end-columns no_order (semicolon t) = refl
end-columns no_order (text_end t) = refl
end-columns (order_by k b o os) e = refl

end-groupless : (y : OrderBy) (e : Ending) → groupless (ordered_end y e) ≡ true
end-groupless no_order (semicolon t) = refl
end-groupless no_order (text_end t) = refl
end-groupless (order_by k b o os) e = refl

window-groupless : (y : OrderBy) (v : WindowTree) (e : Ending) → groupless (words_of_order y ++ (words_of_window v ++ words_of_ending e)) ≡ true
window-groupless (order_by k b o os) v e = refl
window-groupless no_order (window (most_rows p k n) u) e = refl
window-groupless no_order (window no_limit (skipped_rows p k n)) e = refl
window-groupless no_order (window no_limit no_offset) (semicolon t) = refl
window-groupless no_order (window no_limit no_offset) (text_end t) = refl

one_ordered_end : (y z : OrderBy) (e f : Ending) → ordered_end y e ≡ ordered_end z f → (y ≡ z) × (e ≡ f)
one_ordered_end y z e f h =
    let (order, rest) = one_order y z (words_of_ending e) (words_of_ending f) (windowed-order (words_of_ending e) (ending-windowed e)) (windowed-order (words_of_ending f) (ending-windowed f)) h in
    (order, one_ending e f rest)

-- GROUP BY, an order and an end
one_grouping : (a b : GroupBy) (y z : OrderBy) (e f : Ending) → words_of_group_by a ++ ordered_end y e ≡ words_of_group_by b ++ ordered_end z f → (a ≡ b) × (y ≡ z) × (e ≡ f)
one_grouping no_group_by no_group_by y z e f h = let (order, end) = one_ordered_end y z e f h in (refl, order, end)
one_grouping no_group_by (group_by j u d ds) y z e f h = absurd (tested groupless (ordered_end y e) (words_of_group_by (group_by j u d ds) ++ ordered_end z f) (end-groupless y e) refl h)
one_grouping (group_by k t c cs) no_group_by y z e f h = absurd (tested groupless (ordered_end z f) (words_of_group_by (group_by k t c cs) ++ ordered_end y e) (end-groupless z f) refl (sym h))
one_grouping (group_by k t c cs) (group_by j u d ds) y z e f h =
    let word : k ≡ j = cc (h) in
    let by' : t ≡ u = cc (h) in
    let (first, more) = one_col c d (words_of_group_columns cs ++ ordered_end y e) (words_of_group_columns ds ++ ordered_end z f) (columns-col cs (ordered_end y e) (end-columns y e))
    (columns-col ds (ordered_end z f) (end-columns z f))
    (sym (append_assoc (words_of_col c) (words_of_group_columns cs) (ordered_end y e)) ∙ (ap (drop 2) h ∙ append_assoc (words_of_col d) (words_of_group_columns ds) (ordered_end z f))) in
    let (others, rest) = one_columns cs ds (ordered_end y e) (ordered_end z f) (end-columns y e) (end-columns z f) more in
    let (order, end) = one_ordered_end y z e f rest in
    (cc (word, by', first, others), order, end)

grouping-select : (b : GroupBy) (y : OrderBy) (e : Ending) → ends_select (words_of_group_by b ++ ordered_end y e) ≡ true
grouping-select no_group_by y e = order-select y (words_of_ending e) (windowed-order (words_of_ending e) (ending-windowed e))
grouping-select (group_by k t c cs) y e = refl

one_holds : (b : Bool) (p q : Holds b) → p ≡ q
one_holds true p q = refl
one_holds false p q = absurd p

-- equal parts make equal trees
same_grouped : (i u : GroupedItem) (is us : List (Mark × GroupedItem)) (f : Key) (g : Group) (gs : List (Mark × Group)) (w : Where) (a b : GroupBy) (y : OrderBy) (e : Ending) → i ≡ u → is ≡ us → a ≡ b →
    (p : IsGrouped i is a) (q : IsGrouped u us b) → grouped_select i is f g gs w a p y e ≡ grouped_select u us f g gs w b q y e
same_grouped i u is us f g gs w a b y e first others grouping p =
    subst (λ k. (q : IsGrouped k us b) → grouped_select i is f g gs w a p y e ≡ grouped_select k us f g gs w b q y e) first
    (subst (λ ks. (q : IsGrouped i ks b) → grouped_select i is f g gs w a p y e ≡ grouped_select i ks f g gs w b q y e) others
    (subst (λ c. (q : IsGrouped i is c) → grouped_select i is f g gs w a p y e ≡ grouped_select i is f g gs w c q y e) grouping
    (λ q. ap (λ r. grouped_select i is f g gs w a r y e) (one_holds (is_written a || (is_call i || has_call is)) p q))))

-- a list begins with a star or a name
abbrev begins_list : List Terminal → Bool
begins_list (t_mark Star _ ∷ _) = true
begins_list (t_name _ ∷ _) = true
begins_list _ = false

list-begins : (o : Output) (x : List Terminal) → begins_list (words_of_output o ++ x) ≡ true
list-begins (every s) x = refl
list-begins (every_of n d s) x = refl
list-begins (one (bare n)) x = refl
list-begins (one (qualified q d n)) x = refl

listed-begins : (is : List (Mark × GroupedItem)) (f : Key) (x : List Terminal) → begins_list (listed is f x) ≡ false
listed-begins [] f x = refl
listed-begins ((m, i) ∷ is) f x = refl

-- DISTINCT before a list is no item
distinct-apart : (d : Token) (o : Output) (x : List Terminal) (i : GroupedItem) (is : List (Mark × GroupedItem)) (f : Key) (y : List Terminal) →
    t_name (free Distinct d) ∷ (words_of_output o ++ x) ≡ words_of_grouped_item i ++ listed is f y → ⊥
distinct-apart d o x (plain_item (every s)) is f y e = absurd (cc (e))
distinct-apart d o x (plain_item (every_of n m s)) is f y e = tested begins_list (words_of_output o ++ x) (t_mark Dot m ∷ t_mark Star s ∷ listed is f y) (list-begins o x) refl (ap (drop 1) e)
distinct-apart d o x (plain_item (one (bare n))) is f y e = tested begins_list (words_of_output o ++ x) (listed is f y) (list-begins o x) (listed-begins is f y) (ap (drop 1) e)
distinct-apart d o x (plain_item (one (qualified q m n))) is f y e = tested begins_list (words_of_output o ++ x) (t_mark Dot m ∷ t_name n ∷ listed is f y) (list-begins o x) refl (ap (drop 1) e)
distinct-apart d o x (call n m a c) is f y e = tested begins_list (words_of_output o ++ x) (t_mark Open m ∷ ((words_of_argument a ++ t_mark Close c ∷ []) ++ listed is f y)) (list-begins o x) refl (ap (drop 1) e)

one_grouped : (a b : GroupedSelect) → words_of_grouped a ≡ words_of_grouped b → a ≡ b
one_grouped (distinct_select a d o os f g gs v y e) (distinct_select b c u us j k ks w z r) h =
    let word : d ≡ c = cc (h) in
    let last : List Terminal = ordered_end y e in
    let end : List Terminal = ordered_end z r in
    let (first, more) = one_output o u (fronted os f (behind g gs v last)) (fronted us j (behind k ks w end)) (fronted-ends os f (behind g gs v last)) (fronted-ends us j (behind k ks w end)) (ap (drop 1) h) in
    let (others, from, tables) = one_outputs os us f j (behind g gs v last) (behind k ks w end) more in
    let (group, groups, condition, rest) = one_behind g k gs ks v w last end (grouping-select no_group_by y e) (grouping-select no_group_by z r) tables in
    let (order, stop) = one_ordered_end y z e r rest in
    cc (one_offered READS_DISTINCT a b, word, first, others, from, group, groups, condition, order, stop)
one_grouped (distinct_select a d o os f g gs v y e) (grouped_select u us j k ks w b q z r) h =
    absurd (distinct-apart d o (fronted os f (behind g gs v (ordered_end y e))) u us j (behind k ks w (words_of_group_by b ++ ordered_end z r)) h)
one_grouped (grouped_select i is f g gs v a p y e) (distinct_select b c u us j k ks w z r) h =
    absurd (distinct-apart c u (fronted us j (behind k ks w (ordered_end z r))) i is f (behind g gs v (words_of_group_by a ++ ordered_end y e)) (sym h))
one_grouped (grouped_select i is f g gs v a p y e) (grouped_select u us j d ds w b q z r) h =
    let last : List Terminal = words_of_group_by a ++ ordered_end y e in
    let end : List Terminal = words_of_group_by b ++ ordered_end z r in
    let (first, more) = one_item i u (listed is f (behind g gs v last)) (listed us j (behind d ds w end)) (listed-ends is f (behind g gs v last)) (listed-ends us j (behind d ds w end)) h in
    let (others, from, tables) = one_items is us f j (behind g gs v last) (behind d ds w end) more in
    let (group, groups, condition, rest) = one_behind g d gs ds v w last end (grouping-select a y e) (grouping-select b z r) tables in
    let (grouping, order, stop) = one_grouping a b y z e r rest in
    let same = same_grouped i u is us f g gs v a b y e first others grouping p q in
    same ∙ cc (from, group, groups, condition, order, stop)

-- with the words before it
pub one_begun : (x y : MaybeExplain) (i j : Key) (a b : GroupedSelect) → words_of_maybe_explain x ++ t_key SelectKey i ∷ words_of_grouped a ≡ words_of_maybe_explain y ++ t_key SelectKey j ∷ words_of_grouped b →
    (x ≡ y) × (i ≡ j) × (a ≡ b)
one_begun unexplained unexplained i j a b h = let word : i ≡ j = cc (h) in (refl, word, one_grouped a b (ap (drop 1) h))
one_begun unexplained (explained l) i j a b h = absurd (cc (h))
one_begun (explained k) unexplained i j a b h = absurd (cc (h))
one_begun (explained k) (explained l) i j a b h = let first : k ≡ l = cc (h) in let word : i ≡ j = cc (h) in (ap explained first, word, one_grouped a b (ap (drop 2) h))

plain-call : (os : List (Mark × Output)) → has_call (plain_items os) ≡ false
plain-call [] = refl
plain-call ((m, o) ∷ os) = plain-call os

-- a tree without calls and GROUP BY is no tree with them
ungrouped : (b : GroupBy) (c : Bool) → c ≡ false → Holds (is_written b || c) → (x y : List Terminal) → groupless x ≡ true → x ≡ words_of_group_by b ++ y → ⊥
ungrouped no_group_by true none h x y k e = absurd (cc)
ungrouped no_group_by false none h x y k e = h
ungrouped (group_by j t d ds) c none h x y k e = tested groupless x (words_of_group_by (group_by j t d ds) ++ y) k refl e

select-apart : (q : Select) (y : OrderBy) (v : WindowTree) (e : Ending) (j : Key) (b : GroupedSelect) →
    words_of_select q ++ (words_of_order y ++ (words_of_window v ++ words_of_ending e)) ≡ t_key SelectKey j ∷ words_of_grouped b → ⊥
select-apart (select_from k o os f g gs w) y v e j (distinct_select a d u us t m ms c z r) h =
    let last : List Terminal = words_of_order y ++ (words_of_window v ++ words_of_ending e) in
    let whole = sym (select_words k o os f g gs w last) ∙ h in
    let list : t_name (free Distinct d) ∷ (words_of_output u ++ fronted us t (behind m ms c (ordered_end z r))) ≡ words_of_grouped_item (plain_item o) ++ listed (plain_items os) f (behind g gs w last) =
    sym (ap (λ l. words_of_output o ++ (l ++ t_key From f ∷ behind g gs w last)) (plain-items-words os) ∙ ap (drop 1) whole) in
    distinct-apart d u (fronted us t (behind m ms c (ordered_end z r))) (plain_item o) (plain_items os) f (behind g gs w last) list
select-apart (select_from k o os f g gs w) y v e j (grouped_select i is t d ds c a p z r) h =
    let last : List Terminal = words_of_order y ++ (words_of_window v ++ words_of_ending e) in
    let end : List Terminal = words_of_group_by a ++ ordered_end z r in
    let whole = sym (select_words k o os f g gs w last) ∙ h in
    let list : words_of_grouped_item (plain_item o) ++ listed (plain_items os) f (behind g gs w last) ≡ words_of_grouped_item i ++ listed is t (behind d ds c end) =
    ap (λ l. words_of_output o ++ (l ++ t_key From f ∷ behind g gs w last)) (plain-items-words os) ∙ ap (drop 1) whole in
    let (first, more) = one_item (plain_item o) i (listed (plain_items os) f (behind g gs w last)) (listed is t (behind d ds c end)) (listed-ends (plain_items os) f (behind g gs w last)) (listed-ends is t (behind d ds c end)) list in
    let (others, from, tables) = one_items (plain_items os) is f t (behind g gs w last) (behind d ds c end) more in
    let (group, groups, condition, rest) = one_behind g d gs ds w c last end (order-select y (words_of_window v ++ words_of_ending e) (window-ends v (words_of_ending e) (ending-windowed e))) (grouping-select a z r) tables in
    let none : is_call i || has_call is ≡ false =
    subst (λ u. is_call u || has_call is ≡ false) first (subst (λ us. has_call us ≡ false) others (plain-call os)) in
    ungrouped a (is_call i || has_call is) none p last (ordered_end z r) (window-groupless y v e) rest

pub plain-apart : (x : OrderedSelect) (y : MaybeExplain) (j : Key) (b : GroupedSelect) → words_of_ordered x ≡ words_of_maybe_explain y ++ t_key SelectKey j ∷ words_of_grouped b → ⊥
plain-apart (ordered_select no_explain q a v e) unexplained j b h = select-apart q a v e j b h
plain-apart (ordered_select no_explain (select_from k o os f g gs w) a v e) (explained l) j b h = absurd (cc (h))
plain-apart (ordered_select (explain i) (select_from k o os f g gs w) a v e) unexplained j b h = absurd (cc (h))
plain-apart (ordered_select (explain i) q a v e) (explained l) j b h = select-apart q a v e j b (ap (drop 1) h)
plain-apart (ordered_select (explain_table p i o t m) q a v e) unexplained j b h = absurd (cc (h))
plain-apart (ordered_select (explain_table p i o t m) q a v e) (explained l) j b h = absurd (cc (h))

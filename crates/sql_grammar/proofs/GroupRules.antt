-- The rows of a SELECT's list, and of what follows it up to a statement's end, are rules of the grammar.
use Rattle.std.proofs.Common.{◌≡◌, ℕ, ◌+◌, ◌≤◌, Bool, true, false, ◌||◌, List, [], ◌∷◌, ◌++◌, Option, Some, None, refl, sym, ap, ◌∙◌, subst, arith, append_assoc, cond}
use Rattle.sql_lex.specs.declared.tokens.Token.{Token}
use Rattle.sql_grammar.specs.Terminals.{Terminal, Ident, t_key, t_mark, t_name, t_semicolon, t_end, free}
use Rattle.sql_grammar.specs.work.Terminals.{class_of}
use Rattle.sql_grammar.specs.declared.class.Free.TheVariants.{By, Distinct}
use Rattle.sql_grammar.specs.declared.class.Word.TheVariants.{From, Group as GroupKey, Limit as LimitKey, Offset as OffsetKey, Order, Select as SelectKey}
use Rattle.sql_grammar.specs.declared.class.Symbol.TheVariants.{Open, Close, Comma, Dot, Star}
use Rattle.sql_grammar.specs.declared.offered.TheConstants.{READS_DISTINCT, READS_GROUPS, READS_WINDOW}
use Rattle.sql_grammar.specs.declared.table.Item.{Item}
use Rattle.sql_grammar.specs.declared.table.Item.TheVariants.{MoreResults, AfterResult, Keyword, Sign, FreeWord, Label, Digits, Ends, MaybeAlias, MoreJoins, MoreGroups, MaybeWhere, AfterQualifier, MaybeOrder, MaybeLimit, MaybeOffset, AfterDistinct, PlainItem, AfterPlain, PlainNext, PlainTail, MoreGroupedItems, Argument, MaybeGroup, MoreGroupColumns}
use Rattle.sql_grammar.specs.Syntax.{distinct_select, IsOffered, Key, Mark, Col, bare, Output, every, one, Alias, no_alias, relation, Join, Group, group_of, Where, no_where, Select, select_from, Ending, semicolon, text_end, OrderBy, no_order, no_limit, most_rows, no_offset, skipped_rows, WindowTree, window, no_explain, explain, ordered_select, MaybeExplain, unexplained, explained, GroupedItem as ItemTree, plain_item, call, GroupBy, group_by, is_call, has_call, is_written, Holds, IsGrouped, grouped_select, query, grouped}
use Rattle.sql_grammar.specs.Words.{words_of_output, words_of_outputs, words_of_alias, words_of_joins, words_of_group, words_of_groups, words_of_where, words_of_select, words_of_order, words_of_limit, words_of_offset, words_of_window, words_of_ending, words_of_maybe_explain, words_of_argument, words_of_grouped_item, words_of_grouped_items, words_of_group_by, words_of_group_columns, levels_of_joins, levels_of_groups, levels_of_where, levels_of_select}
use Rattle.sql_grammar.specs.work.Table.{takes_of}
use Rattle.sql_grammar.specs.work.Machine.{depth_of}
use Rattle.sql_grammar.proofs.Forest.{Part, Parts, words_of_parts, IsRule, Statement_of, words_of_led, begun}
use Rattle.sql_grammar.proofs.FromRules as froms
use Rattle.sql_grammar.proofs.OrderRules as orders
use Rattle.sql_grammar.proofs.WindowRules as windows

-- a list of items, from those that lead it and the last one
abbrev plain_first : List (Output × Mark) → Output → Output
plain_first [] o = o
plain_first ((u, m) ∷ led) o = u

abbrev plain_rest : List (Output × Mark) → Output → List (Mark × Output)
plain_rest [] o = []
plain_rest ((u, m) ∷ led) o = (m, plain_first led o) ∷ plain_rest led o

plain-list : (led : List (Output × Mark)) (o : Output) (x : List Terminal) →
    words_of_output (plain_first led o) ++ (words_of_outputs (plain_rest led o) ++ x) ≡ words_of_led led ++ (words_of_output o ++ x)
plain-list [] o x = refl
plain-list ((u, m) ∷ led) o x =
    ap (λ l. words_of_output u ++ t_mark Comma m ∷ l) (append_assoc (words_of_output (plain_first led o)) (words_of_outputs (plain_rest led o)) x ∙ plain-list led o x) ∙
    sym (append_assoc (words_of_output u) (t_mark Comma m ∷ words_of_led led) (words_of_output o ++ x))

-- one more that leads
led-more : (led : List (Output × Mark)) (o : Output) (m : Mark) (x : List Terminal) → words_of_led (led ++ (o, m) ∷ []) ++ x ≡ words_of_led led ++ (words_of_output o ++ t_mark Comma m ∷ x)
led-more [] o m x = append_assoc (words_of_output o) (t_mark Comma m ∷ []) x
led-more ((u, c) ∷ led) o m x =
    append_assoc (words_of_output u) (t_mark Comma c ∷ words_of_led (led ++ (o, m) ∷ [])) x ∙
    (ap (λ l. words_of_output u ++ t_mark Comma c ∷ l) (led-more led o m x) ∙
    sym (append_assoc (words_of_output u) (t_mark Comma c ∷ words_of_led led) (words_of_output o ++ t_mark Comma m ∷ x)))

-- a list with a call, from the items that lead it, the call and those behind it
abbrev grouped_first : List (Output × Mark) → ItemTree → ItemTree
grouped_first [] i = i
grouped_first ((u, m) ∷ led) i = plain_item u

abbrev grouped_rest : List (Output × Mark) → ItemTree → List (Mark × ItemTree) → List (Mark × ItemTree)
grouped_rest [] i is = is
grouped_rest ((u, m) ∷ led) i is = (m, grouped_first led i) ∷ grouped_rest led i is

grouped-list : (led : List (Output × Mark)) (i : ItemTree) (is : List (Mark × ItemTree)) (x : List Terminal) →
    words_of_grouped_item (grouped_first led i) ++ (words_of_grouped_items (grouped_rest led i is) ++ x) ≡ words_of_led led ++ (words_of_grouped_item i ++ (words_of_grouped_items is ++ x))
grouped-list [] i is x = refl
grouped-list ((u, m) ∷ led) i is x =
    ap (λ l. words_of_output u ++ t_mark Comma m ∷ l) (append_assoc (words_of_grouped_item (grouped_first led i)) (words_of_grouped_items (grouped_rest led i is)) x ∙ grouped-list led i is x) ∙
    sym (append_assoc (words_of_output u) (t_mark Comma m ∷ words_of_led led) (words_of_grouped_item i ++ (words_of_grouped_items is ++ x)))

list-call : (led : List (Output × Mark)) (i : ItemTree) (is : List (Mark × ItemTree)) → is_call i ≡ true → is_call (grouped_first led i) || has_call (grouped_rest led i is) ≡ true
list-call [] i is e = rw e refl
list-call ((u, m) ∷ led) i is e = list-call led i is e

holds : (a b : Bool) → b ≡ true → Holds (a || b)
holds true b e = tt
holds false true e = tt
holds false false e = absurd (cc)

calls : (led : List (Output × Mark)) (i : ItemTree) (is : List (Mark × ItemTree)) (b : GroupBy) → is_call i ≡ true → IsGrouped (grouped_first led i) (grouped_rest led i is) b
calls led i is b e = holds (is_written b) (is_call (grouped_first led i) || has_call (grouped_rest led i is)) (list-call led i is e)

-- items without a call, as those of a SELECT with GROUP BY
abbrev pub plain_items : List (Mark × Output) → List (Mark × ItemTree)
plain_items [] = []
plain_items ((m, o) ∷ os) = (m, plain_item o) ∷ plain_items os

pub plain-items-words : (os : List (Mark × Output)) → words_of_grouped_items (plain_items os) ≡ words_of_outputs os
plain-items-words [] = refl
plain-items-words ((m, o) ∷ os) = ap (λ l. t_mark Comma m ∷ (words_of_output o ++ l)) (plain-items-words os)

-- the words behind FROM, of a SELECT and of what follows
next-words : (a js gs w ts x : List Terminal) → (a ++ (js ++ (gs ++ (w ++ ts)))) ++ x ≡ a ++ (js ++ (gs ++ (w ++ (ts ++ x))))
next-words a js gs w ts x = simp append_assoc

pub list-words : (o os g gs w x : List Terminal) (f : Terminal) → (o ++ (os ++ f ∷ (g ++ (gs ++ w)))) ++ x ≡ o ++ (os ++ f ∷ (g ++ (gs ++ (w ++ x))))
list-words o os g gs w x f = simp append_assoc

-- the words of a call, of what stands behind it up to the end, and of what follows
call-words : (a is al js gs w b y e x : List Terminal) (c f n : Terminal) →
    (a ++ c ∷ (is ++ f ∷ n ∷ (al ++ (js ++ (gs ++ (w ++ (b ++ (y ++ e)))))))) ++ x ≡ a ++ c ∷ ((is ++ f ∷ []) ++ n ∷ (al ++ (js ++ (gs ++ (w ++ (b ++ (y ++ (e ++ x))))))))
call-words a is al js gs w b y e x c f n = simp append_assoc

-- the words of GROUP BY behind its first column's name, and of what follows
columns-words : (ts cs y e x : List Terminal) → ((ts ++ cs) ++ (y ++ e)) ++ x ≡ ts ++ (cs ++ (y ++ (e ++ x)))
columns-words ts cs y e x = simp append_assoc

module _ (limit depth : ℕ) where
  plain-statement : (x : MaybeExplain) (q : Select) (y : OrderBy) (v : WindowTree) (e : Ending) → levels_of_select q + depth ≤ limit →
      Statement_of limit depth (words_of_maybe_explain x ++ (words_of_select q ++ (words_of_order y ++ (words_of_window v ++ words_of_ending e))))
  plain-statement unexplained q y v e low = (query (ordered_select no_explain q y v e), refl, low)
  plain-statement (explained k) q y v e low = (query (ordered_select (explain k) q y v e), refl, low)

  grouped-statement : IsOffered READS_GROUPS → (x : MaybeExplain) (q : Select) (j : Key) (t : Token) (c : Col) (cs : List (Mark × Col)) (y : OrderBy) (e : Ending) → levels_of_select q + depth ≤ limit →
      Statement_of limit depth (words_of_maybe_explain x ++ (words_of_select q ++ (words_of_group_by (group_by j t c cs) ++ (words_of_order y ++ words_of_ending e))))
  grouped-statement p x (select_from k o os f g gs w) j t c cs y e low = (
    grouped p x k (grouped_select (plain_item o) (plain_items os) f g gs w (group_by j t c cs) tt y e),
    let rest : List Terminal = words_of_group_by (group_by j t c cs) ++ (words_of_order y ++ words_of_ending e) in
        ap (λ l. words_of_maybe_explain x ++ t_key SelectKey k ∷ (words_of_output o ++ (l ++ t_key From f ∷ (words_of_group g ++ (words_of_groups gs ++ (words_of_where w ++ rest)))))) (plain-items-words os) ∙
        ap (λ l. words_of_maybe_explain x ++ t_key SelectKey k ∷ l) (sym (list-words (words_of_output o) (words_of_outputs os) (words_of_group g) (words_of_groups gs) (words_of_where w) rest (t_key From f))),
    low,
  )

  -- what FROM begins, behind an item without a call
  from-next : (m : Key) (n : Ident) (a : Alias) (js : List Join) (gs : List (Mark × Group)) (w : Where) →
      levels_of_joins js + depth ≤ limit → levels_of_groups gs + depth ≤ limit → levels_of_where w + depth ≤ limit → Part limit depth PlainTail → Part limit depth PlainNext
  from-next m n a js gs w ejs egs low (ts, after') = (
    t_key From m ∷ t_name n ∷ (words_of_alias a ++ (words_of_joins js ++ (words_of_groups gs ++ (words_of_where w ++ ts)))),
    λ x k led o.
        let (y, is, less) = after' x (select_from k (plain_first led o) (plain_rest led o) m (group_of (relation n a) js) gs w) (omega (arith, ejs, egs, low)) in (
          y,
          is ∙
              ap (λ l. words_of_maybe_explain x ++ t_key SelectKey k ∷ l)
              (froms.select-words (words_of_output (plain_first led o)) (words_of_outputs (plain_rest led o)) (words_of_alias a) (words_of_joins js) (words_of_groups gs) (words_of_where w) ts (t_key From m) (t_name n) ∙
              plain-list led o (t_key From m ∷ t_name n ∷ (words_of_alias a ++ (words_of_joins js ++ (words_of_groups gs ++ (words_of_where w ++ ts)))))),
          less,
        ),
  )

  pub some-tail : Token → Part limit depth PlainTail
  some-tail t = (t_semicolon t ∷ [], λ x q low. plain-statement x q no_order (window no_limit no_offset) (semicolon t) low)

  module _ (shallow : depth ≤ limit) (n : Ident) (t : Token) where
    pub some-next : Part limit depth PlainNext
    some-next = from-next t n no_alias [] [] no_where (omega (arith, shallow)) (omega (arith, shallow)) (omega (arith, shallow)) (some-tail t)

    pub some-after : Part limit depth AfterPlain
    some-after = let (ts, whole) = some-next in (ts, λ x k led m. whole x k led (one (bare m)))

    pub some-item : Part limit depth PlainItem
    some-item = let (ts, whole) = some-next in (t_mark Star t ∷ ts, λ x k led. whole x k led (every t))

module _ (limit : ℕ) (s : List Item) where
  pub plain_next_rule : (t : Terminal) → IsRule limit s PlainNext t (takes_of PlainNext (class_of t))
  unfolding from-next
  plain_next_rule (t_mark Comma m) = λ ((ts, whole), f). (
    (
      (
        t_mark Comma m ∷ ts,
        λ x k led o.
            let (y, is, low) = whole x k (led ++ (o, m) ∷ []) in
            (y, is ∙ ap (λ l. words_of_maybe_explain x ++ t_key SelectKey k ∷ l) (led-more led o m ts), low),
      ),
      f,
    ),
    refl,
  )
  plain_next_rule (t_key From m) = λ (n, (a, ((js, ejs), ((gs, egs), ((w, low), ((ts, after'), f)))))). (
    (from-next limit (depth_of s) m n a js gs w (omega (arith, ejs)) (omega (arith, egs)) (omega (arith, low)) (ts, after'), f),
    ap (λ l. t_key From m ∷ t_name n ∷ l) (next-words (words_of_alias a) (words_of_joins js) (words_of_groups gs) (words_of_where w) ts (words_of_parts limit s f)),
  )
  plain_next_rule _ = tt

  by-name : (t : Terminal) (e : Option (List Item)) → IsRule limit s PlainNext t e → IsRule limit s AfterPlain t e
  by-name t None r = tt
  by-name t (Some is) r = λ f. let (((ts, whole), g), same) = r f in (((ts, λ x k led n. whole x k led (one (bare n))), g), same)

  called : (b : Bool) (m : Mark) → b ≡ READS_GROUPS →
      IsRule limit s AfterPlain (t_mark Open m) (cond b (Some (Argument ∷ Sign Close ∷ MoreGroupedItems ∷ Label ∷ MaybeAlias ∷ MoreJoins ∷ MoreGroups ∷ MaybeWhere ∷ MaybeGroup ∷ MaybeOrder ∷ Ends ∷ [])) None)
  called true m offered = λ (a, (c, ((is, from), (n, (al, ((js, ejs), ((gs, egs), ((w, low), (b, (y, (e, f))))))))))).
      let rest : List Terminal = words_of_groups gs ++ (words_of_where w ++ (words_of_group_by b ++ (words_of_order y ++ words_of_ending e))) in (
        (
          (
            t_mark Open m ∷ (words_of_argument a ++ t_mark Close c ∷ (words_of_grouped_items is ++ t_key From from ∷ t_name n ∷ (words_of_alias al ++ (words_of_joins js ++ rest)))),
            λ x k led i. (
              grouped (subst IsOffered offered tt) x k
                  (grouped_select (grouped_first led (call i m a c)) (grouped_rest led (call i m a c) is) from (group_of (relation n al) js) gs w b (calls led (call i m a c) is b refl) y e),
              ap (λ l. words_of_maybe_explain x ++ t_key SelectKey k ∷ l)
                  (grouped-list led (call i m a c) is (t_key From from ∷ t_name n ∷ ((words_of_alias al ++ words_of_joins js) ++ rest)) ∙
                  ap (λ l. words_of_led led ++ t_name i ∷ t_mark Open m ∷ l)
                  (append_assoc (words_of_argument a) (t_mark Close c ∷ []) (words_of_grouped_items is ++ t_key From from ∷ t_name n ∷ ((words_of_alias al ++ words_of_joins js) ++ rest)) ∙
                  ap (λ l. words_of_argument a ++ t_mark Close c ∷ (words_of_grouped_items is ++ t_key From from ∷ t_name n ∷ l)) (append_assoc (words_of_alias al) (words_of_joins js) rest))),
              omega (arith, ejs, egs, low),
            ),
          ),
          f,
        ),
        ap (λ l. t_mark Open m ∷ l)
            (call-words (words_of_argument a) (words_of_grouped_items is) (words_of_alias al) (words_of_joins js) (words_of_groups gs) (words_of_where w) (words_of_group_by b) (words_of_order y)
            (words_of_ending e) (words_of_parts limit s f) (t_mark Close c) (t_key From from) (t_name n)),
      )
  called false m offered = tt

  pub after_plain_rule : (t : Terminal) → IsRule limit s AfterPlain t (takes_of AfterPlain (class_of t))
  after_plain_rule (t_mark Dot m) = λ ((ws, after'), ((ts, whole), f)). (
    (
      (
        t_mark Dot m ∷ (ws ++ ts),
        λ x k led n.
            let (o, is) = after' n m in
            let (y, same, low) = whole x k led o in
            (y, same ∙ ap (λ l. begun x k led (l ++ ts)) is, low),
      ),
      f,
    ),
    ap (λ l. t_mark Dot m ∷ l) (append_assoc ws ts (words_of_parts limit s f)),
  )
  after_plain_rule (t_mark Open m) = called READS_GROUPS m refl
  after_plain_rule (t_mark Comma m) = by-name (t_mark Comma m) (takes_of PlainNext (class_of (t_mark Comma m))) (plain_next_rule (t_mark Comma m))
  after_plain_rule (t_key From m) = by-name (t_key From m) (takes_of PlainNext (class_of (t_key From m))) (plain_next_rule (t_key From m))
  after_plain_rule _ = tt

  as-name : (t : Terminal) (e : Option (List Item)) → IsRule limit s AfterPlain t e → IsRule limit s AfterDistinct t e
  as-name t None r = tt
  as-name t (Some is) r = λ f. let (((ts, whole), g), same) = r f in (((ts, λ x k d. whole x k [] (free Distinct d)), g), same)

  starred : (b : Bool) (m : Mark) → b ≡ READS_DISTINCT →
      IsRule limit s AfterDistinct (t_mark Star m) (cond b (Some (MoreResults ∷ Keyword From ∷ Label ∷ MaybeAlias ∷ MoreJoins ∷ MoreGroups ∷ MaybeWhere ∷ MaybeOrder ∷ Ends ∷ [])) None)
  starred true m offered = λ (os, (from, (n, (al, ((js, ejs), ((gs, egs), ((w, low), (y, (e, f))))))))). (
    (
      (
        t_mark Star m ∷ (words_of_outputs os ++ t_key From from ∷ t_name n ∷ (words_of_alias al ++ (words_of_joins js ++ (words_of_groups gs ++ (words_of_where w ++ (words_of_order y ++ words_of_ending e)))))),
        λ x k d. (
          grouped tt x k (distinct_select (subst IsOffered offered tt) d (every m) os from (group_of (relation n al) js) gs w y e),
          simp append_assoc,
          omega (arith, ejs, egs, low),
        ),
      ),
      f,
    ),
    simp append_assoc,
  )
  starred false m offered = tt

  listed-names : (b : Bool) (u : Ident) → b ≡ READS_DISTINCT →
      IsRule limit s AfterDistinct (t_name u) (cond b (Some (AfterResult ∷ MoreResults ∷ Keyword From ∷ Label ∷ MaybeAlias ∷ MoreJoins ∷ MoreGroups ∷ MaybeWhere ∷ MaybeOrder ∷ Ends ∷ [])) None)
  listed-names true u offered = λ ((ws, after'), (os, (from, (n, (al, ((js, ejs), ((gs, egs), ((w, low), (y, (e, f)))))))))). (
    (
      (
        t_name u ∷ (ws ++ (words_of_outputs os ++ t_key From from ∷ t_name n ∷ (words_of_alias al ++ (words_of_joins js ++ (words_of_groups gs ++ (words_of_where w ++ (words_of_order y ++ words_of_ending e))))))),
        λ x k d.
            let (o, is) = after' u in (
              grouped tt x k (distinct_select (subst IsOffered offered tt) d o os from (group_of (relation n al) js) gs w y e),
              ap (λ l. words_of_maybe_explain x ++ t_key SelectKey k ∷ t_name (free Distinct d) ∷ (l ++ (words_of_outputs os ++ t_key From from ∷ (words_of_group (group_of (relation n al) js) ++ (words_of_groups gs ++ (words_of_where w ++ (words_of_order y ++ words_of_ending e))))))) is ∙ simp append_assoc,
              omega (arith, ejs, egs, low),
            ),
      ),
      f,
    ),
    simp append_assoc,
  )
  listed-names false u offered = tt

  pub after_distinct_rule : (t : Terminal) → IsRule limit s AfterDistinct t (takes_of AfterDistinct (class_of t))
  after_distinct_rule (t_mark Star m) = starred READS_DISTINCT m refl
  after_distinct_rule (t_name u) = listed-names READS_DISTINCT u refl
  after_distinct_rule (t_mark Dot m) = as-name (t_mark Dot m) (takes_of AfterPlain (class_of (t_mark Dot m))) (after_plain_rule (t_mark Dot m))
  after_distinct_rule (t_mark Open m) = as-name (t_mark Open m) (takes_of AfterPlain (class_of (t_mark Open m))) (after_plain_rule (t_mark Open m))
  after_distinct_rule (t_mark Comma m) = as-name (t_mark Comma m) (takes_of AfterPlain (class_of (t_mark Comma m))) (after_plain_rule (t_mark Comma m))
  after_distinct_rule (t_key From m) = as-name (t_key From m) (takes_of AfterPlain (class_of (t_key From m))) (after_plain_rule (t_key From m))
  after_distinct_rule _ = tt

  -- an order, a window and an end, where no call and no GROUP BY stands
  plain-tail : (f : Parts limit (MaybeOrder ∷ MaybeLimit ∷ MaybeOffset ∷ Ends ∷ s)) →
      (g : Parts limit (PlainTail ∷ s)) × (words_of_parts limit (PlainTail ∷ s) g ≡ words_of_parts limit (MaybeOrder ∷ MaybeLimit ∷ MaybeOffset ∷ Ends ∷ s) f)
  plain-tail (y, (l, (u, (e, f)))) = (
    (
      (words_of_order y ++ (words_of_window (window l u) ++ words_of_ending e), λ x q low. plain-statement limit (depth_of s) x q y (window l u) e low),
      f,
    ),
    windows.window-words (words_of_order y) (words_of_limit l) (words_of_offset u) (words_of_ending e) (words_of_parts limit s f),
  )

  grouping : (b : Bool) (k : Key) → b ≡ READS_GROUPS → IsRule limit s PlainTail (t_key GroupKey k) (cond b (Some (FreeWord By ∷ Label ∷ AfterQualifier ∷ MoreGroupColumns ∷ MaybeOrder ∷ Ends ∷ [])) None)
  grouping true k offered = λ (t, (n, ((ts, after'), (cs, (y, (e, f)))))).
      let (c, same) = after' n in (
        (
          (
            words_of_group_by (group_by k t c cs) ++ (words_of_order y ++ words_of_ending e),
            λ x q low. grouped-statement limit (depth_of s) (subst IsOffered offered tt) x q k t c cs y e low,
          ),
          f,
        ),
        ap (λ l. t_key GroupKey k ∷ t_name (free By t) ∷ (((l ++ words_of_group_columns cs) ++ (words_of_order y ++ words_of_ending e)) ++ words_of_parts limit s f)) same ∙
            ap (λ l. t_key GroupKey k ∷ t_name (free By t) ∷ t_name n ∷ l) (columns-words ts (words_of_group_columns cs) (words_of_order y) (words_of_ending e) (words_of_parts limit s f)),
      )
  grouping false k offered = tt

  most : (b : Bool) (k : Key) → b ≡ READS_WINDOW → IsRule limit s PlainTail (t_key LimitKey k) (cond b (Some (Digits ∷ MaybeOffset ∷ Ends ∷ [])) None)
  most true k offered = λ (n, f). plain-tail (no_order, (most_rows (subst IsOffered offered tt) k n, f))
  most false k offered = tt

  skipped : (b : Bool) (k : Key) → b ≡ READS_WINDOW → IsRule limit s PlainTail (t_key OffsetKey k) (cond b (Some (Digits ∷ Ends ∷ [])) None)
  skipped true k offered = λ (n, f). plain-tail (no_order, (no_limit, (skipped_rows (subst IsOffered offered tt) k n, f)))
  skipped false k offered = tt

  pub plain_tail_rule : (t : Terminal) → IsRule limit s PlainTail t (takes_of PlainTail (class_of t))
  plain_tail_rule (t_key GroupKey k) = grouping READS_GROUPS k refl
  plain_tail_rule (t_key Order k) = λ f.
      let (g, is) = orders.order_rule limit (MaybeLimit ∷ MaybeOffset ∷ Ends ∷ s) (t_key Order k) f in
      let (h, same) = plain-tail g in
      (h, same ∙ is)
  plain_tail_rule (t_key LimitKey k) = most READS_WINDOW k refl
  plain_tail_rule (t_key OffsetKey k) = skipped READS_WINDOW k refl
  plain_tail_rule (t_semicolon t) = λ f. plain-tail (no_order, (no_limit, (no_offset, (semicolon t, f))))
  plain_tail_rule (t_end t) = λ f. plain-tail (no_order, (no_limit, (no_offset, (text_end t, f))))
  plain_tail_rule _ = tt

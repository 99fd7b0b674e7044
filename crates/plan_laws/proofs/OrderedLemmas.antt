-- A finished plan's run is in the ORDER BY, where each item follows its class.
use Rattle.std.proofs.Common.{◌≡◌, Ordering, Equal, ℕ, Bool, true, false, not, cond, ◌&&◌, ◌||◌, List, [], ◌∷◌, ◌++◌, map, filter, refl, sym, ap, ◌∙◌, subst, append_assoc, ⊎_elim}
use Rattle.std.specs.Prelude.{nat_eq, filter_map, Option, None, Some}
use Rattle.std.specs.List.{AllByRecursion, list_any, cons_option}
use Rattle.std.specs.Ordering.{is_gt, ordering_then}
use Rattle.std.proofs.lemmas.Bool.{cases_Bool, or_cases, true≢false, eqb-true, eq-eqb, not-true}
use Rattle.std.proofs.lemmas.Option.{none-some}
use Rattle.eq_classes.specs.declared.order.OrderItem.{OrderItem}
use Rattle.eq_classes.specs.Parts.{is_all}
use Rattle.pathkeys.specs.Sorted.{class_order}
use Rattle.sql_query.specs.Queries.{Query, all_of_query}
use Rattle.pg_value.specs.Sorting.{one_after_other}
use Rattle.pathkeys.specs.Keys.{Keys, order_class, is_constant, once, order_keys}
use Rattle.eq_classes.specs.Listing.{class_at}
use Rattle.sql_query.specs.Worlds.{World}
use Rattle.sql_query.specs.Tuples.{Tuple, value_at}
use Rattle.sql_query.specs.Meaning.{item_order, IsOrdered}
use Rattle.plan_laws.specs.work.Meant.{holds_at}
use Rattle.plan_laws.proofs.FilterLemmas.{filter_follows}
use Rattle.plan_laws.proofs.EachLemmas.{each_of, each_snoc}
use Rattle.plan_laws.proofs.TotalLemmas.{IsUp, up_is_in_order}
use Rattle.plan_laws.proofs.KeyLemmas.{by_keys}
use Rattle.plan_laws.proofs.IndexOrderLemmas.{up_mapped}
use Rattle.plan_laws.proofs.IndexKeyLemmas.{after_same}
use Rattle.pg_base.proofs.NumberLemmas.{nat_eq-turned}

filter_two : {X : Type 0} (p q r : X → Bool) → ((x : X) → r x ≡ q x && p x) → (xs : List X) → filter p (filter q xs) ≡ filter r xs
filter_two p q r h [] = refl
filter_two {X} p q r h (x ∷ xs) = by (filter_two p q r h xs) (q x) (p x) refl refl (h x)
  where
    by : filter p (filter q xs) ≡ filter r xs → (a b : Bool) → q x ≡ a → p x ≡ b → r x ≡ q x && p x → filter p (cond (q x) (x ∷ filter q xs) (filter q xs)) ≡ cond (r x) (x ∷ filter r xs) (filter r xs)
    by more true true e f g = rw (g, e, f) (ap (λ l. x ∷ l) more)
    by more true false e f g = rw (g, e, f) more
    by more false b e f g = rw (g, e) more

not_or : (a b : Bool) → not (a || b) ≡ not a && not b
not_or true b = refl
not_or false b = refl

abbrev untaken : Keys → ℕ → Bool
untaken taken m = not (list_any (nat_eq m) taken)

all_untaken : (ns : List ℕ) → filter (untaken []) ns ≡ ns
all_untaken [] = refl
all_untaken (n ∷ ns) = ap (λ l. n ∷ l) (all_untaken ns)

same_number : (n m : ℕ) {o : Option ℕ} → o ≡ Some n → o ≡ Some m → n ≡ m
same_number n m e f = cc

other_than : (n : ℕ) (taken : Keys) → list_any (nat_eq n) taken ≡ true → (m : ℕ) → untaken taken m ≡ true → not (nat_eq n m) ≡ true
other_than n taken h m free = ⊎_elim
    (λ (e : nat_eq n m ≡ true). absurd (true≢false (sym h ∙ ap (λ (j : ℕ). list_any (nat_eq j) taken) (eqb-true n m e) ∙ not-true (list_any (nat_eq m) taken) free)))
    (λ (e : nat_eq n m ≡ false). ap not e)
    (cases_Bool (nat_eq n m))

map_same_list : {X : Type 0} (xs : List X) → map (λ x. x) xs ≡ xs
map_same_list [] = refl
map_same_list (x ∷ xs) = ap (λ l. x ∷ l) (map_same_list xs)

among_ties : (P : ℕ → Type 0) (n : ℕ) (taken : Keys) → AllByRecursion P taken → list_any (nat_eq n) taken ≡ true → P n
among_ties P n [] h g = absurd (true≢false (sym g))
among_ties P n (m ∷ ms) h g = ⊎_elim (λ (here : nat_eq n m ≡ true). subst P (sym (eqb-true n m here)) h.0) (λ (later : list_any (nat_eq n) ms ≡ true). among_ties P n ms h.1 later) (or_cases (nat_eq n m) (list_any (nat_eq n) ms) g)

module _ (w : World) (q : Query) where
  abbrev class_by : OrderItem → Option ℕ
  class_by item = order_class q.classes item.col

  -- how an item of ORDER BY stands to its class, at two tuples
  pub record FollowsClass (x y : Tuple) (before : List OrderItem) (item : OrderItem) : Type 0 where
    -- an item whose column has no class, or one that has a constant, ties
    pub no_class : class_by item ≡ None → item_order w q item x y ≡ Equal
    pub constant : (n : ℕ) → class_by item ≡ Some n → is_constant q.classes n ≡ true → item_order w q item x y ≡ Equal
    -- an item ties where its class does
    pub tied : (n : ℕ) → class_by item ≡ Some n → class_order (class_at q.classes.classes n) (all_of_query q) (value_at w q x) (value_at w q y) ≡ Equal → item_order w q item x y ≡ Equal
    -- the first item by a class without a constant orders as the class
    pub first : (n : ℕ) → class_by item ≡ Some n → is_constant q.classes n ≡ false → AllByRecursion (λ j. class_by j ≡ Some n → ⊥) before → item_order w q item x y ≡ class_order (class_at q.classes.classes n) (all_of_query q) (value_at w q x) (value_at w q y)

  -- each item does, at tuples at which all clauses hold
  abbrev pub ItemsFollow : Type 0
  ItemsFollow = (x y : Tuple) → holds_at w q x (is_all (all_of_query q)) ≡ true → holds_at w q y (is_all (all_of_query q)) ≡ true
      → (before : List OrderItem) (item : OrderItem) (after : List OrderItem) → q.order ≡ before ++ item ∷ after → FollowsClass x y before item

  abbrev kept : ℕ → Bool
  kept n = not (is_constant q.classes n)

  abbrev keys_of_items : List OrderItem → Keys
  keys_of_items items = once (filter kept (filter_map class_by items))

  module _ (x y : Tuple) (follow : (before : List OrderItem) (item : OrderItem) (after : List OrderItem) → q.order ≡ before ++ item ∷ after → FollowsClass x y before item) where
    abbrev Ties : ℕ → Type 0
    Ties n = class_order (class_at q.classes.classes n) (all_of_query q) (value_at w q x) (value_at w q y) ≡ Equal

    abbrev Seen : Keys → OrderItem → Type 0
    Seen taken j = (n : ℕ) → class_by j ≡ Some n → kept n ≡ true → list_any (nat_eq n) taken ≡ true

    abbrev Ups : Keys → Type 0
    Ups keys = is_gt (by_keys w q (all_of_query q) keys x y) ≡ false

    abbrev lex : List OrderItem → Ordering
    lex items = one_after_other (map (item_order w q) items) x y

    passes_over : (a b : Ordering) → a ≡ Equal → is_gt b ≡ false → is_gt (ordering_then a b) ≡ false
    passes_over a b e h = ap (λ (o : Ordering). is_gt (ordering_then o b)) e ∙ h

    unseen : (taken : Keys) (n : ℕ) → list_any (nat_eq n) taken ≡ false → kept n ≡ true → (js : List OrderItem) → AllByRecursion (Seen taken) js → AllByRecursion (λ j. class_by j ≡ Some n → ⊥) js
    unseen taken n out k [] h = tt
    unseen taken n out k (j ∷ js) h = (λ e. true≢false (sym (h.0 n e k) ∙ out), unseen taken n out k js h.1)

    one_more : (taken : Keys) (n : ℕ) (js : List OrderItem) → AllByRecursion (Seen taken) js → AllByRecursion (Seen (n ∷ taken)) js
    one_more taken n [] h = tt
    one_more taken n (j ∷ js) h = ((λ m e k. or_more (nat_eq m n) (list_any (nat_eq m) taken) (h.0 m e k)), one_more taken n js h.1)
      where
        or_more : (a b : Bool) → b ≡ true → a || b ≡ true
        or_more true b h = refl
        or_more false b h = h

    items_up : (before items : List OrderItem) (taken : Keys) → q.order ≡ before ++ items → AllByRecursion Ties taken → AllByRecursion (Seen taken) before
        → Ups (filter (untaken taken) (keys_of_items items)) → is_gt (lex items) ≡ false
    items_up before [] taken e ties seen h = refl
    items_up before (item ∷ items) taken e ties seen h =
        by (λ more ties' seen'. items_up (before ++ item ∷ []) items more (e ∙ sym (append_assoc before (item ∷ []) items)) ties' seen') (class_by item) refl h
      where
        facts : FollowsClass x y before item
        facts = follow before item items e

        by_tests : ((more : Keys) → AllByRecursion Ties more → AllByRecursion (Seen more) (before ++ item ∷ []) → Ups (filter (untaken more) (keys_of_items items)) → is_gt (lex items) ≡ false)
            → (n : ℕ) → class_by item ≡ Some n → (A B : Bool) → is_constant q.classes n ≡ A → list_any (nat_eq n) taken ≡ B
            → Ups (filter (untaken taken) (once (cond (not A) (n ∷ filter kept (filter_map class_by items)) (filter kept (filter_map class_by items)))))
            → is_gt (ordering_then (item_order w q item x y) (lex items)) ≡ false
        by_tests later n is true B a b h =
            passes_over (item_order w q item x y) (lex items) (facts.constant n is a)
            (later taken ties (each_snoc (Seen taken) before item seen (λ m is' k. absurd (true≢false (sym (subst (λ (j : ℕ). is_constant q.classes j ≡ true) (same_number n m is is') a) ∙ not-true (is_constant q.classes m) k)))) h)
        by_tests later n is false true a b h =
            passes_over (item_order w q item x y) (lex items) (facts.tied n is (among_ties Ties n taken ties b))
            (later taken ties (each_snoc (Seen taken) before item seen (λ m is' k. subst (λ (j : ℕ). list_any (nat_eq j) taken ≡ true) (same_number n m is is') b))
            (subst (λ (l : Keys). Ups l)
            (ap (λ (v : Bool). cond (not v) (n ∷ filter (untaken taken) (filter (λ m. not (nat_eq n m)) (keys_of_items items))) (filter (untaken taken) (filter (λ m. not (nat_eq n m)) (keys_of_items items)))) b
            ∙ filter_follows (untaken taken) (λ m. not (nat_eq n m)) (keys_of_items items) (each_of (λ m. untaken taken m ≡ true → not (nat_eq n m) ≡ true) (λ m free. other_than n taken b m free) (keys_of_items items)))
            h))
        by_tests later n is false false a b h =
            let k : kept n ≡ true = ap not a in
            let same = facts.first n is a (unseen taken n b k before seen) in
            ap (λ (o : Ordering). is_gt (ordering_then o (lex items))) same
            ∙ after_same (class_order (class_at q.classes.classes n) (all_of_query q) (value_at w q x) (value_at w q y)) (by_keys w q (all_of_query q) (filter (untaken (n ∷ taken)) (keys_of_items items)) x y) (lex items)
            (subst (λ (l : Keys). Ups l)
            (ap (λ (v : Bool). cond (not v) (n ∷ filter (untaken taken) (filter (λ m. not (nat_eq n m)) (keys_of_items items))) (filter (untaken taken) (filter (λ m. not (nat_eq n m)) (keys_of_items items)))) b
            ∙ ap (λ (l : Keys). n ∷ l) (filter_two (untaken taken) (λ m. not (nat_eq n m)) (untaken (n ∷ taken)) (λ m. not_or (nat_eq m n) (list_any (nat_eq m) taken) ∙ ap (λ (v : Bool). not v && untaken taken m) (nat_eq-turned m n)) (keys_of_items items)))
            h)
            (λ tie more. later (n ∷ taken) (tie, ties) (each_snoc (Seen (n ∷ taken)) before item (one_more taken n before seen) (λ m is' k'. ap (λ (v : Bool). v || list_any (nat_eq m) taken) (eq-eqb m n (sym (same_number n m is is'))))) more)

        by : ((more : Keys) → AllByRecursion Ties more → AllByRecursion (Seen more) (before ++ item ∷ []) → Ups (filter (untaken more) (keys_of_items items)) → is_gt (lex items) ≡ false)
            → (o : Option ℕ) → class_by item ≡ o → Ups (filter (untaken taken) (once (filter kept (cons_option (class_by item) (filter_map class_by items)))))
            → is_gt (ordering_then (item_order w q item x y) (lex items)) ≡ false
        by later None is h =
            passes_over (item_order w q item x y) (lex items) (facts.no_class is)
            (later taken ties (each_snoc (Seen taken) before item seen (λ n is' k. absurd (none-some n (sym is ∙ is'))))
            (subst (λ (o : Option ℕ). Ups (filter (untaken taken) (once (filter kept (cons_option o (filter_map class_by items)))))) is h))
        by later (Some n) is h =
            by_tests later n is (is_constant q.classes n) (list_any (nat_eq n) taken) refl refl
            (subst (λ (o : Option ℕ). Ups (filter (untaken taken) (once (filter kept (cons_option o (filter_map class_by items)))))) is h)

  pub each_pair_up : ItemsFollow → (ts : List Tuple) → AllByRecursion (λ t. holds_at w q t (is_all (all_of_query q)) ≡ true) ts → IsUp (by_keys w q (all_of_query q) (order_keys q.classes q.order)) ts → IsOrdered w q ts
  each_pair_up follow ts hold up =
      up_is_in_order (one_after_other (map (item_order w q) q.order)) ts
      (subst (λ (l : List Tuple). IsUp (one_after_other (map (item_order w q) q.order)) l) (map_same_list ts)
      (up_mapped (by_keys w q (all_of_query q) (order_keys q.classes q.order)) (one_after_other (map (item_order w q) q.order)) (λ t. holds_at w q t (is_all (all_of_query q)) ≡ true) (λ t. t)
      (λ x y hx hy h. items_up x y (follow x y hx hy) [] q.order [] refl tt tt (subst (λ (l : Keys). is_gt (by_keys w q (all_of_query q) l x y) ≡ false) (sym (all_untaken (order_keys q.classes q.order))) h))
      ts hold up))

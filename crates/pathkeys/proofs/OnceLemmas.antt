-- Numbers that stand once, and the order keys item by item.
use Rattle.std.proofs.Common.{◌≡◌, ◌≢◌, ◌<◌, ◌≤◌, ◌+◌, ℕ, suc, Bool, true, false, not, cond, ◌&&◌, ◌||◌, nat_eq, List, [], ◌∷◌, ◌++◌, length, take, drop, filter, append-nil, All, Option, Some, None, refl, sym, ap, ◌∙◌, arith}
use Rattle.std.specs.Prelude.{filter_map, IfSome}
use Rattle.std.specs.List.{cons_option, position_from}
use Rattle.std.proofs.lemmas.Bool.{true≢false, eq-eqb, eqb-true, eqb-false, ne_eqb}
use Rattle.std.proofs.lemmas.List.Elements.{All-cons, All-nil, All-filter, filter_agree, filter_passes, All-weaker}
use Rattle.std.proofs.lemmas.List.Kept.{AllPairs-cons, AllPairs-filter}
use Rattle.std.proofs.lemmas.List.{drop_all}
use Rattle.std.proofs.lemmas.List.Folds.{list_any-append}
use Rattle.catalog.specs.pg_value_operators_Family.{Family}
use Rattle.catalog.specs.pg_expr_operand_ColRef.{ColRef}
use Rattle.eq_classes.specs.declared.order.OrderItem.{OrderItem}
use Rattle.eq_classes.specs.Classes.{is_in, in_family, is_plain}
use Rattle.eq_classes.specs.Clauses.{ClassTable}
use Rattle.pathkeys.specs.Keys.{Keys, AreDifferent, is_constant, class_of, order_class, once, order_keys}
use Rattle.pathkeys.specs.work.Keys.{IsKeyList}
use Rattle.pathkeys.specs.work.Finding.{is_class, is_ordered_by, new_class, order_after}

filter_two : {A : Type 0} (p q : A → Bool) (xs : List A) → filter p (filter q xs) ≡ filter (λ x. q x && p x) xs
filter_two p q [] = refl
filter_two {A} p q (x ∷ xs) = by (filter_two p q xs) (q x)
  where
    by : filter p (filter q xs) ≡ filter (λ y. q y && p y) xs → (b : Bool) → filter p (cond b (x ∷ filter q xs) (filter q xs)) ≡ cond (b && p x) (x ∷ filter (λ y. q y && p y) xs) (filter (λ y. q y && p y) xs)
    by later false = later
    by later true = ap (λ (ys : List A). cond (p x) (x ∷ ys) ys) later

abbrev differs : ℕ → ℕ → Bool
differs n m = not (nat_eq n m)

both_turned : (a b : Bool) → a && b ≡ b && a
both_turned true true = refl
both_turned true false = refl
both_turned false true = refl
both_turned false false = refl

-- a test that a number fails tells it from those that pass
fails : (p : ℕ → Bool) (n : ℕ) → p n ≡ false → (m : ℕ) → p m ≡ differs n m && p m
fails p n e m = by (nat_eq n m) refl
  where
    by : (b : Bool) → nat_eq n m ≡ b → p m ≡ not b && p m
    by false f = refl
    by true f = sym (ap p (eqb-true n m f)) ∙ e

once_filter : (p : ℕ → Bool) (ns : List ℕ) → once (filter p ns) ≡ filter p (once ns)
once_filter p [] = refl
once_filter p (n ∷ ns) = by (once_filter p ns) (p n) refl
  where
    by : once (filter p ns) ≡ filter p (once ns) → (b : Bool) → p n ≡ b
        → once (cond b (n ∷ filter p ns) (filter p ns)) ≡ cond b (n ∷ filter p (filter (differs n) (once ns))) (filter p (filter (differs n) (once ns)))
    by later true e =
        ap (λ (ms : List ℕ). n ∷ ms) (ap (filter (differs n)) later ∙ filter_two (differs n) p (once ns)
        ∙ filter_agree (λ m. p m && differs n m) (λ m. differs n m && p m) (λ m. both_turned (p m) (differs n m)) (once ns) ∙ sym (filter_two p (differs n) (once ns)))
    by later false e = later ∙ filter_agree p (λ m. differs n m && p m) (fails p n e) (once ns) ∙ sym (filter_two p (differs n) (once ns))

differs_is : (n m : ℕ) → differs n m ≡ true → n ≢ m
differs_is n m e same = absurd (true≢false (sym e ∙ ap not (eq-eqb n m same)))

pub once_different : (ns : List ℕ) → AreDifferent (once ns)
once_different [] = λ i j d lt within. absurd (omega (arith, within))
once_different (n ∷ ns) =
    let rest = once ns in
    AllPairs-cons (λ a b. a ≢ b) n (filter (differs n) rest)
    (All-weaker (λ m. differs n m ≡ true) (λ m. n ≢ m) (differs_is n) (filter (differs n) rest) (filter_passes (differs n) rest))
    (AllPairs-filter (λ a b. a ≢ b) (differs n) rest (once_different ns))

once_all : (P : ℕ → Type 0) (ns : List ℕ) → All P ns → All P (once ns)
once_all P [] h = h
once_all P (n ∷ ns) h = All-cons P n (filter (differs n) (once ns)) (h 0 n (omega arith)) (All-filter (differs n) P (once ns) (once_all P ns (λ i d lt. h (suc i) d (omega (arith, lt)))))

position_within : {A : Type 0} (p : A → Bool) (i : ℕ) (xs : List A) → IfSome (position_from p i xs) (λ n. n < i + length xs)
position_within p i [] = tt
position_within {A} p i (x ∷ xs) = by (position_within p (i + 1) xs) (p x)
  where
    more : (o : Option ℕ) → IfSome o (λ n. n < i + 1 + length xs) → IfSome o (λ n. n < i + suc (length xs))
    more None h = tt
    more (Some n) h = omega (arith, h)

    by : IfSome (position_from p (i + 1) xs) (λ n. n < i + 1 + length xs) → (b : Bool) → IfSome (cond b (Some i) (position_from p (i + 1) xs)) (λ n. n < i + suc (length xs))
    by later true = omega arith
    by later false = more (position_from p (i + 1) xs) later

place_within : {A : Type 0} (p : A → Bool) (xs : List A) → IfSome (position_from p 0 xs) (λ n. n < length xs)
place_within p xs = from_0 (position_from p 0 xs) (position_within p 0 xs)
  where
    from_0 : (o : Option ℕ) → IfSome o (λ n. n < 0 + length xs) → IfSome o (λ n. n < length xs)
    from_0 None h = tt
    from_0 (Some n) h = omega (arith, h)

pub class_within : (t : ClassTable) (x : ColRef) (f : Family) → IfSome (class_of t x f) (λ n. n < length t.classes)
class_within t x f = place_within (λ c. is_in c (in_family x f)) t.classes

order_class_within : (t : ClassTable) (x : ColRef) → IfSome (order_class t x) (λ n. n < length t.classes)
order_class_within t x = place_within (is_plain x) t.classes

module _ (t : ClassTable) where
  abbrev class_by : OrderItem → Option ℕ
  class_by item = order_class t item.col

  abbrev is_free : ℕ → Bool
  is_free n = not (is_constant t n)

  classes_within : (order : List OrderItem) → All (λ n. n < length t.classes) (filter_map class_by order)
  classes_within [] = All-nil (λ n. n < length t.classes)
  classes_within (i ∷ is) = by (class_by i) (order_class_within t i.col) (classes_within is)
    where
      by : (o : Option ℕ) → IfSome o (λ n. n < length t.classes) → All (λ n. n < length t.classes) (filter_map class_by is) → All (λ n. n < length t.classes) (cons_option o (filter_map class_by is))
      by None h later = later
      by (Some n) h later = All-cons (λ m. m < length t.classes) n (filter_map class_by is) h later

  free_is : (n : ℕ) → is_free n ≡ true → is_constant t n ≡ false
  free_is n e = by (is_constant t n) e
    where
      by : (b : Bool) → not b ≡ true → b ≡ false
      by true h = sym h
      by false h = refl

  pub order_keys_are_keys : (order : List OrderItem) → IsKeyList t (order_keys t order)
  order_keys_are_keys order =
      let found = filter_map class_by order in
      record {
        different = once_different (filter is_free found);
        classes = once_all (λ n. n < length t.classes) (filter is_free found) (All-filter is_free (λ n. n < length t.classes) found (classes_within order));
        free = once_all (λ n. is_constant t n ≡ false) (filter is_free found) (All-weaker (λ n. is_free n ≡ true) (λ n. is_constant t n ≡ false) free_is (filter is_free found) (filter_passes is_free found));
      }

  abbrev kept : List OrderItem → ℕ → Bool
  kept before m = is_free m && not (is_ordered_by t before m)

  shuffled : (f b x : Bool) → f && not (b || (x || false)) ≡ not x && (f && not b)
  shuffled true true true = refl
  shuffled true true false = refl
  shuffled true false true = refl
  shuffled true false false = refl
  shuffled false true true = refl
  shuffled false true false = refl
  shuffled false false true = refl
  shuffled false false false = refl

  one_more : (before : List OrderItem) (i : OrderItem) (o : Option ℕ) → class_by i ≡ o → (m : ℕ) → kept (before ++ i ∷ []) m ≡ is_free m && not (is_ordered_by t before m || (is_class m o || false))
  one_more before i o e m =
      ap (λ (b : Bool). is_free m && not b) (list_any-append (λ (j : OrderItem). is_class m (class_by j)) before (i ∷ []) ∙ ap (λ (p : Option ℕ). is_ordered_by t before m || (is_class m p || false)) e)

  turned_number : (m n : ℕ) → nat_eq m n ≡ nat_eq n m
  turned_number m n = by (nat_eq n m) refl
    where
      by : (b : Bool) → nat_eq n m ≡ b → nat_eq m n ≡ b
      by true e = eq-eqb m n (sym (eqb-true n m e))
      by false e = ne_eqb m n (λ same. eqb-false n m e (sym same))

  added : (a b : Bool) (n : ℕ) (xs ys : List ℕ) → xs ≡ ys → cons_option (cond (a || b) None (Some n)) xs ≡ cond (not a && not b) (n ∷ ys) ys
  added true b n xs ys e = e
  added false true n xs ys e = e
  added false false n xs ys e = ap (λ (zs : List ℕ). n ∷ zs) e

  order_is : (before is : List OrderItem) → order_after t before is ≡ filter (kept before) (once (filter_map class_by is))
  order_is before [] = refl
  order_is before (i ∷ is) = by (order_is (before ++ i ∷ []) is) (class_by i) refl
    where
      by : order_after t (before ++ i ∷ []) is ≡ filter (kept (before ++ i ∷ [])) (once (filter_map class_by is)) → (o : Option ℕ) → class_by i ≡ o
          → cons_option (new_class t before o) (order_after t (before ++ i ∷ []) is) ≡ filter (kept before) (once (cons_option o (filter_map class_by is)))
      by later None e =
          later ∙ filter_agree (kept (before ++ i ∷ [])) (kept before) (λ m. one_more before i None e m ∙ shuffled (is_free m) (is_ordered_by t before m) false) (once (filter_map class_by is))
      by later (Some n) e =
          let rest = once (filter_map class_by is) in
          added (is_constant t n) (is_ordered_by t before n) n (order_after t (before ++ i ∷ []) is) (filter (kept before) (filter (differs n) rest))
          (later
          ∙ filter_agree (kept (before ++ i ∷ [])) (λ m. differs n m && kept before m)
          (λ m. one_more before i (Some n) e m ∙ shuffled (is_free m) (is_ordered_by t before m) (nat_eq m n) ∙ ap (λ (b : Bool). not b && kept before m) (turned_number m n)) rest
          ∙ sym (filter_two (kept before) (differs n) rest))

  pub order_after_are : (order : List OrderItem) → order_after t [] order ≡ order_keys t order
  order_after_are order =
      order_is [] order
      ∙ filter_agree (kept []) is_free (λ m. both_turned (is_free m) true) (once (filter_map class_by order))
      ∙ sym (once_filter is_free (filter_map class_by order))

  -- past the last item no key is left
  pub all_found : (order : List OrderItem) (n : ℕ) (found : Keys) → length order ≤ n → found ++ order_after t (take n order) (drop n order) ≡ order_keys t order → found ≡ order_keys t order
  all_found order n found end all =
      sym (append-nil found) ∙ ap (λ (is : List OrderItem). found ++ order_after t (take n order) is) (sym (drop_all n order end)) ∙ all

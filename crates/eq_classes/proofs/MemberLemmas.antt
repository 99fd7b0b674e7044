-- Columns put in order, and values noted once.
use Rattle.std.proofs.Common.{◌≡◌, ℕ, suc, ◌+◌, ◌<◌, ◌≤◌, Bool, true, false, not, cond, ◌&&◌, ◌||◌, ◌⊎◌, inl, inr, ⊎_elim, List, [], ◌∷◌, ◌++◌, filter, insert, AllPairs, nat_eq, nat_lt, refl, sym, ap, ◌∙◌, subst, arith, append_assoc, append-nil}
use Rattle.std.specs.List.{list_any, prefix_len}
use Rattle.std.proofs.lemmas.Bool.{cases_Bool, cases_lt, and_from, or_left, or_right, true≢false, eq-eqb, lt-ltb, or_parts}
use Rattle.opfamily.specs.pg_value_operators_Family.{Family}
use Rattle.opfamily.specs.pg_value_value_Value.{Value}
use Rattle.pg_expr.specs.declared.operand.ColRef.{ColRef}
use Rattle.pg_expr.specs.Pushed.{is_lower}
use Rattle.eq_classes.specs.Equality.{is_column, are_equal}
use Rattle.eq_classes.specs.Classes.{distinct}
use Rattle.eq_classes.specs.work.Building.{inserted, arranged, noted}
use Rattle.eq_classes.proofs.ListLemmas.{IsIn, Before, any_from, any_at, pairs_all}
use Rattle.eq_classes.proofs.EqualLemmas.{column_is, equal_sym, equal_trans}
use Rattle.eq_classes.proofs.ClasswiseLemmas.{same_truth}
use Rattle.eq_classes.proofs.UniqueLemmas.{lower_cases}
use Rattle.eq_classes.proofs.PartitionLemmas.{any-append}

lower_from : (x y : ColRef) → (x.rel.0 < y.rel.0) ⊎ ((x.rel.0 ≡ y.rel.0) × (x.col.0 < y.col.0)) → is_lower x y ≡ true
lower_from x y (inl lt) = or_left (nat_lt x.rel.0 y.rel.0) (nat_eq x.rel.0 y.rel.0 && nat_lt x.col.0 y.col.0) (lt-ltb x.rel.0 y.rel.0 lt)
lower_from x y (inr h) = or_right (nat_lt x.rel.0 y.rel.0) (nat_eq x.rel.0 y.rel.0 && nat_lt x.col.0 y.col.0) (and_from _ _ (eq-eqb x.rel.0 y.rel.0 h.0) (lt-ltb x.col.0 y.col.0 h.1))

lower_trans : (x y z : ColRef) → is_lower x y ≡ true → is_lower y z ≡ true → is_lower x z ≡ true
lower_trans x y z p q = ⊎_elim
    (λ (a : x.rel.0 < y.rel.0). ⊎_elim
    (λ (b : y.rel.0 < z.rel.0). lower_from x z (inl (omega (arith, a, b))))
    (λ (b : (y.rel.0 ≡ z.rel.0) × (y.col.0 < z.col.0)). lower_from x z (inl (omega (arith, a, b.0))))
    (lower_cases y z q))
    (λ (a : (x.rel.0 ≡ y.rel.0) × (x.col.0 < y.col.0)). ⊎_elim
    (λ (b : y.rel.0 < z.rel.0). lower_from x z (inl (omega (arith, a.0, b))))
    (λ (b : (y.rel.0 ≡ z.rel.0) × (y.col.0 < z.col.0)). lower_from x z (inr (a.0 ∙ b.0, omega (arith, a.1, b.1))))
    (lower_cases y z q))
    (lower_cases x y p)

lower_total : (z c : ColRef) → is_lower z c ≡ false → is_column c z ≡ false → is_lower c z ≡ true
lower_total z c not_lower differ = ⊎_elim
    (λ (a : c.rel.0 < z.rel.0). lower_from c z (inl a))
    (λ (a : z.rel.0 ≤ c.rel.0). ⊎_elim
    (λ (b : z.rel.0 < c.rel.0). absurd (true≢false (sym (lower_from z c (inl b)) ∙ not_lower)))
    (λ (b : c.rel.0 ≤ z.rel.0).
    let rel : c.rel.0 ≡ z.rel.0 = omega (arith, a, b) in
    ⊎_elim
    (λ (d : c.col.0 < z.col.0). lower_from c z (inr (rel, d)))
    (λ (d : z.col.0 ≤ c.col.0). ⊎_elim
    (λ (e : z.col.0 < c.col.0). absurd (true≢false (sym (lower_from z c (inr (sym rel, e))) ∙ not_lower)))
    (λ (e : c.col.0 ≤ z.col.0).
    let col : c.col.0 ≡ z.col.0 = omega (arith, d, e) in
    absurd (true≢false (sym (and_from _ _ (eq-eqb c.rel.0 z.rel.0 rel) (eq-eqb c.col.0 z.col.0 col)) ∙ differ)))
    (cases_lt z.col.0 c.col.0))
    (cases_lt c.col.0 z.col.0))
    (cases_lt z.rel.0 c.rel.0))
    (cases_lt c.rel.0 z.rel.0)

abbrev ins : ColRef → List ColRef → List ColRef
ins c [] = c ∷ []
ins c (x ∷ xs) = cond (is_lower x c) (x ∷ ins c xs) (c ∷ x ∷ xs)

insert_more : (x c : ColRef) (xs : List ColRef) (n : ℕ) → insert (x ∷ xs) (1 + n) c ≡ x ∷ insert xs n c
insert_more x c xs n = let e : 1 + n ≡ suc n = omega arith in ap (λ (m : ℕ). insert (x ∷ xs) m c) e

insert_ins : (c : ColRef) (xs : List ColRef) → insert xs (prefix_len (λ m. is_lower m c) xs) c ≡ ins c xs
insert_ins c [] = refl
insert_ins c (x ∷ xs) = ⊎_elim
    (λ (t : is_lower x c ≡ true). rw t (insert_more x c xs (prefix_len (λ m. is_lower m c) xs) ∙ ap (λ (l : List ColRef). x ∷ l) (insert_ins c xs)))
    (λ (t : is_lower x c ≡ false). rw t refl)
    (cases_Bool (is_lower x c))

in_ins : (c : ColRef) (xs : List ColRef) (y : ColRef) → IsIn y (ins c xs) → (y ≡ c) ⊎ IsIn y xs
in_ins c [] y (inl e) = inl e
in_ins c [] y (inr h) = absurd h
in_ins c (x ∷ xs) y h = ⊎_elim
    (λ (t : is_lower x c ≡ true). ⊎_elim
    (λ (e : y ≡ x). inr (inl e))
    (λ (i : IsIn y (ins c xs)). ⊎_elim (λ (e : y ≡ c). inl e) (λ (j : IsIn y xs). inr (inr j)) (in_ins c xs y i))
    (rw t at h))
    (λ (t : is_lower x c ≡ false). ⊎_elim (λ (e : y ≡ c). inl e) (λ (i : IsIn y (x ∷ xs)). inr i) (rw t at h))
    (cases_Bool (is_lower x c))

ins_in : (c : ColRef) (xs : List ColRef) (y : ColRef) → (y ≡ c) ⊎ IsIn y xs → IsIn y (ins c xs)
ins_in c [] y (inl e) = inl e
ins_in c [] y (inr h) = absurd h
ins_in c (x ∷ xs) y h = ⊎_elim
    (λ (t : is_lower x c ≡ true). rw t (⊎_elim
    (λ (e : y ≡ c). inr (ins_in c xs y (inl e)))
    (λ (i : (y ≡ x) ⊎ IsIn y xs). ⊎_elim (λ (e : y ≡ x). inl e) (λ (j : IsIn y xs). inr (ins_in c xs y (inr j))) i)
    h))
    (λ (t : is_lower x c ≡ false). rw t (⊎_elim (λ (e : y ≡ c). inl e) (λ (i : (y ≡ x) ⊎ IsIn y xs). inr i) h))
    (cases_Bool (is_lower x c))

abbrev pub Rises : List ColRef → Type 0
Rises xs = (x y : ColRef) → Before x y xs → is_lower x y ≡ true

ins_rises : (c : ColRef) (xs : List ColRef) → list_any (is_column c) xs ≡ false → Rises xs → Rises (ins c xs)
ins_rises c [] fresh rises x y h = ⊎_elim (λ (w : (x ≡ c) × ⊥). absurd w.1) (λ (w : ⊥). absurd w) h
ins_rises c (z ∷ zs) fresh rises x y h =
    let parts = or_parts (is_column c z) (list_any (is_column c) zs) fresh in
    ⊎_elim
    (λ (t : is_lower z c ≡ true). ⊎_elim
    (λ (w : (x ≡ z) × IsIn y (ins c zs)). ⊎_elim
    (λ (e : y ≡ c). ap (λ (a : ColRef). is_lower a y) w.0 ∙ ap (is_lower z) e ∙ t)
    (λ (i : IsIn y zs). rises x y (inl (w.0, i)))
    (in_ins c zs y w.1))
    (λ (w : Before x y (ins c zs)). ins_rises c zs parts.1 (λ a b k. rises a b (inr k)) x y w)
    (rw t at h))
    (λ (t : is_lower z c ≡ false).
    let first : is_lower c z ≡ true = lower_total z c t parts.0 in
    ⊎_elim
    (λ (w : (x ≡ c) × IsIn y (z ∷ zs)). ⊎_elim
    (λ (e : y ≡ z). ap (λ (a : ColRef). is_lower a y) w.0 ∙ ap (is_lower c) e ∙ first)
    (λ (i : IsIn y zs). ap (λ (a : ColRef). is_lower a y) w.0 ∙ lower_trans c z y first (rises z y (inl (refl, i))))
    w.1)
    (λ (w : Before x y (z ∷ zs)). rises x y w)
    (rw t at h))
    (cases_Bool (is_lower z c))

-- columns put in order
inserted_in : (c : ColRef) (xs : List ColRef) (y : ColRef) → IsIn y (inserted c xs) → (y ≡ c) ⊎ IsIn y xs
inserted_in c xs y h = ⊎_elim
    (λ (t : list_any (is_column c) xs ≡ true). inr (rw t at h))
    (λ (t : list_any (is_column c) xs ≡ false). let i : IsIn y (insert xs (prefix_len (λ m. is_lower m c) xs) c) = rw t at h in in_ins c xs y (subst (λ (l : List ColRef). IsIn y l) (insert_ins c xs) i))
    (cases_Bool (list_any (is_column c) xs))

in_inserted : (c : ColRef) (xs : List ColRef) (y : ColRef) → (y ≡ c) ⊎ IsIn y xs → IsIn y (inserted c xs)
in_inserted c xs y h = ⊎_elim
    (λ (t : list_any (is_column c) xs ≡ true). rw t (⊎_elim
    (λ (e : y ≡ c). let w = any_at (is_column c) xs t in subst (λ (a : ColRef). IsIn a xs) (sym (column_is c w.0 w.2) ∙ sym e) w.1)
    (λ (i : IsIn y xs). i)
    h))
    (λ (t : list_any (is_column c) xs ≡ false). rw t (subst (λ (l : List ColRef). IsIn y l) (sym (insert_ins c xs)) (ins_in c xs y h)))
    (cases_Bool (list_any (is_column c) xs))

inserted_rises : (c : ColRef) (xs : List ColRef) → Rises xs → Rises (inserted c xs)
inserted_rises c xs rises = ⊎_elim
    (λ (t : list_any (is_column c) xs ≡ true). rw t rises)
    (λ (t : list_any (is_column c) xs ≡ false). rw t (subst (λ (l : List ColRef). Rises l) (sym (insert_ins c xs)) (ins_rises c xs t rises)))
    (cases_Bool (list_any (is_column c) xs))

pub arranged_rises : (cs xs : List ColRef) → Rises xs → Rises (arranged cs xs)
arranged_rises [] xs rises = rises
arranged_rises (c ∷ cs) xs rises = arranged_rises cs (inserted c xs) (inserted_rises c xs rises)

pub arranged_in : (cs xs : List ColRef) (y : ColRef) → IsIn y (arranged cs xs) → IsIn y cs ⊎ IsIn y xs
arranged_in [] xs y h = inr h
arranged_in (c ∷ cs) xs y h = ⊎_elim
    (λ (i : IsIn y cs). inl (inr i))
    (λ (i : IsIn y (inserted c xs)). ⊎_elim (λ (e : y ≡ c). inl (inl e)) (λ (j : IsIn y xs). inr j) (inserted_in c xs y i))
    (arranged_in cs (inserted c xs) y h)

pub in_arranged : (cs xs : List ColRef) (y : ColRef) → IsIn y cs ⊎ IsIn y xs → IsIn y (arranged cs xs)
in_arranged [] xs y (inl h) = absurd h
in_arranged [] xs y (inr h) = h
in_arranged (c ∷ cs) xs y (inl (inl e)) = in_arranged cs (inserted c xs) y (inr (in_inserted c xs y (inl e)))
in_arranged (c ∷ cs) xs y (inl (inr i)) = in_arranged cs (inserted c xs) y (inl i)
in_arranged (c ∷ cs) xs y (inr h) = in_arranged cs (inserted c xs) y (inr (in_inserted c xs y (inr h)))

pub arranged_pairs : (cs : List ColRef) → AllPairs (λ x y. is_lower x y ≡ true) (arranged cs [])
arranged_pairs cs = pairs_all (λ x y. is_lower x y ≡ true) (arranged cs []) (arranged_rises cs [] (λ a b w. absurd w))

-- values noted once
module _ {A : Type 0} where
  filter_alike : (p q : A → Bool) (xs : List A) → ((x : A) → p x ≡ q x) → filter p xs ≡ filter q xs
  filter_alike p q [] h = refl
  filter_alike p q (z ∷ zs) h = ap (λ (t : Bool). cond t (z ∷ filter p zs) (filter p zs)) (h z) ∙ ap (λ (l : List A). cond (q z) (z ∷ l) l) (filter_alike p q zs h)

  filter_twice : (p q : A → Bool) (xs : List A) → filter p (filter q xs) ≡ filter (λ x. q x && p x) xs
  filter_twice p q [] = refl
  filter_twice p q (z ∷ zs) = ⊎_elim
      (λ (t : q z ≡ true). rw t (ap (λ (l : List A). cond (p z) (z ∷ l) l) (filter_twice p q zs)))
      (λ (t : q z ≡ false). rw t (filter_twice p q zs))
      (cases_Bool (q z))

module _ (f : Family) where
  abbrev is_new : List Value → Value → Bool
  is_new known w = not (list_any (are_equal f w) known)

  equal_both : (v w : Value) → are_equal f v w ≡ are_equal f w v
  equal_both v w = same_truth _ _ (equal_sym f v w) (equal_sym f w v)

  -- a value equal to one that is known is known
  known_too : (known : List Value) (v w : Value) → list_any (are_equal f v) known ≡ true → are_equal f v w ≡ true → list_any (are_equal f w) known ≡ true
  known_too known v w h e = let u = any_at (are_equal f v) known h in any_from (are_equal f w) known u.0 u.1 (equal_trans f w v u.0 (equal_sym f v w e) u.2)

  old_test : (known : List Value) (v w : Value) → list_any (are_equal f v) known ≡ true → not (are_equal f v w) && is_new known w ≡ is_new known w
  old_test known v w h = ⊎_elim
      (λ (t : are_equal f v w ≡ true). let k : list_any (are_equal f w) known ≡ true = known_too known v w h t in rw (t, k) refl)
      (λ (t : are_equal f v w ≡ false). rw t refl)
      (cases_Bool (are_equal f v w))

  not_or : (a b : Bool) → not (a || (b || false)) ≡ not b && not a
  not_or true true = refl
  not_or true false = refl
  not_or false true = refl
  not_or false false = refl

  any_more : (known : List Value) (w v : Value) → list_any (are_equal f w) (known ++ v ∷ []) ≡ list_any (are_equal f w) known || (are_equal f w v || false)
  any_more known w v = any-append (are_equal f w) known (v ∷ [])

  new_test : (known : List Value) (v w : Value) → is_new (known ++ v ∷ []) w ≡ not (are_equal f v w) && is_new known w
  new_test known v w = ap not (any_more known w v) ∙ not_or (list_any (are_equal f w) known) (are_equal f w v) ∙ ap (λ (t : Bool). not t && is_new known w) (equal_both w v)

  noted_is : (vs known : List Value) → noted f vs known ≡ known ++ filter (is_new known) (distinct f vs)
  noted_is [] known = sym (append-nil known)
  noted_is (v ∷ vs) known = ⊎_elim
      (λ (t : list_any (are_equal f v) known ≡ true). rw t (noted_is vs known ∙ ap (λ (l : List Value). known ++ l)
      (sym (filter_twice (is_new known) (λ w. not (are_equal f v w)) (distinct f vs) ∙ filter_alike (λ w. not (are_equal f v w) && is_new known w) (is_new known) (distinct f vs) (λ w. old_test known v w t)))))
      (λ (t : list_any (are_equal f v) known ≡ false). rw t (noted_is vs (known ++ v ∷ []) ∙ append_assoc known (v ∷ []) (filter (is_new (known ++ v ∷ [])) (distinct f vs))
      ∙ ap (λ (l : List Value). known ++ v ∷ l) (filter_alike (is_new (known ++ v ∷ [])) (λ w. not (are_equal f v w) && is_new known w) (distinct f vs) (new_test known v) ∙ sym (filter_twice (is_new known) (λ w. not (are_equal f v w)) (distinct f vs)))))
      (cases_Bool (list_any (are_equal f v) known))

  filter_all : (xs : List Value) → filter (is_new []) xs ≡ xs
  filter_all [] = refl
  filter_all (z ∷ zs) = ap (λ (l : List Value). z ∷ l) (filter_all zs)

  pub noted_distinct : (vs : List Value) → noted f vs [] ≡ distinct f vs
  noted_distinct vs = noted_is vs [] ∙ filter_all (distinct f vs)

-- How many elements of a list differ, where some count as the same.
use Rattle.std.proofs.Common.{◌≡◌, ℕ, suc, ◌+◌, ◌<◌, ◌≤◌, Bool, true, false, not, cond, ◌||◌, ◌⊎◌, inl, inr, ⊎_elim, List, [], ◌∷◌, ◌++◌, length, map, filter, nat_eq, refl, sym, ap, ◌∙◌, subst, arith}
use Rattle.std.specs.List.{list_any, list_all, AllByRecursion, IsDistinct}
use Rattle.std.proofs.lemmas.Bool.{cases_Bool, or_cases, or_left, or_right, true≢false, eqb-true}
use Rattle.std.proofs.lemmas.Map.Steps.{length-le_from_distinct_below}
use Rattle.eq_classes.proofs.ListLemmas.{IsIn, Before, in_filter, before_filter, any_from, any_at}
use Rattle.eq_classes.proofs.PartitionLemmas.{any-append}

module _ {A : Type 0} (alike : A → A → Bool) where
  -- each element that none after it is like
  abbrev pub count : List A → ℕ
  count [] = 0
  count (x ∷ xs) = cond (list_any (alike x) xs) (count xs) (suc (count xs))

  pub count_most : (xs : List A) → count xs ≤ length xs
  count_most [] = omega arith
  count_most (x ∷ xs) = ⊎_elim
      (λ (t : list_any (alike x) xs ≡ true). rw t (let h = count_most xs in omega (arith, h)))
      (λ (t : list_any (alike x) xs ≡ false). rw t (let h = count_most xs in omega (arith, h)))
      (cases_Bool (list_any (alike x) xs))

  pub count_append : (xs ys : List A) → count (xs ++ ys) ≤ count xs + count ys
  count_append [] ys = omega arith
  count_append (x ∷ xs) ys =
      let h = count_append xs ys in
      ⊎_elim
      (λ (t : list_any (alike x) xs ≡ true).
      let e : list_any (alike x) (xs ++ ys) ≡ true = any-append (alike x) xs ys ∙ or_left _ _ t in
      rw (t, e) h)
      (λ (t : list_any (alike x) xs ≡ false). ⊎_elim
      (λ (e : list_any (alike x) (xs ++ ys) ≡ true). rw (t, e) (omega (arith, h)))
      (λ (e : list_any (alike x) (xs ++ ys) ≡ false). rw (t, e) (omega (arith, h)))
      (cases_Bool (list_any (alike x) (xs ++ ys))))
      (cases_Bool (list_any (alike x) xs))

  module _ (flips : (x y : A) → alike x y ≡ true → alike y x ≡ true) (follows : (x y z : A) → alike x y ≡ true → alike y z ≡ true → alike x z ≡ true) where
    -- an element of the one that is like some of the other counts once
    pub count_shared : (xs ys : List A) (x : A) → IsIn x xs → list_any (alike x) ys ≡ true → count (xs ++ ys) + 1 ≤ count xs + count ys
    count_shared [] ys x i h = absurd i
    count_shared (z ∷ xs) ys x i h = ⊎_elim
        (λ (t : list_any (alike z) xs ≡ true).
        let e : list_any (alike z) (xs ++ ys) ≡ true = any-append (alike z) xs ys ∙ or_left _ _ t in
        rw (t, e) (⊎_elim
        (λ (s : x ≡ z).
        let u = any_at (alike z) xs t in
        let v = any_at (alike x) ys h in
        count_shared xs ys u.0 u.1 (any_from (alike u.0) ys v.0 v.1 (follows u.0 z v.0 (flips z u.0 u.2) (subst (λ (a : A). alike a v.0 ≡ true) s v.2))))
        (λ (j : IsIn x xs). count_shared xs ys x j h)
        i))
        (λ (t : list_any (alike z) xs ≡ false). ⊎_elim
        (λ (s : x ≡ z).
        let k : list_any (alike z) ys ≡ true = ap (λ (a : A). list_any (alike a) ys) (sym s) ∙ h in
        let e : list_any (alike z) (xs ++ ys) ≡ true = any-append (alike z) xs ys ∙ or_right (list_any (alike z) xs) (list_any (alike z) ys) k in
        rw (t, e) (let w = count_append xs ys in omega (arith, w)))
        (λ (j : IsIn x xs).
        let w = count_shared xs ys x j h in
        ⊎_elim
        (λ (e : list_any (alike z) (xs ++ ys) ≡ true). rw (t, e) (omega (arith, w)))
        (λ (e : list_any (alike z) (xs ++ ys) ≡ false). rw (t, e) (omega (arith, w)))
        (cases_Bool (list_any (alike z) (xs ++ ys))))
        i)
        (cases_Bool (list_any (alike z) xs))

    -- where at most one element passes a test, all but one fail it
    all_but_one : (test : A → Bool) (zs : List A) → ((x y : A) → Before x y zs → test x ≡ true → test y ≡ true → ⊥) → length zs ≤ length (filter (λ z. not (test z)) zs) + 1
    all_but_one test [] h = omega arith
    all_but_one test (z ∷ zs) h = ⊎_elim
        (λ (t : test z ≡ true). rw t (let w = none_passes zs (λ y i p. h z y (inl (refl, i)) t p) in omega (arith, w)))
        (λ (t : test z ≡ false). rw t (let w = all_but_one test zs (λ x y b. h x y (inr b)) in omega (arith, w)))
        (cases_Bool (test z))
      where
        none_passes : (zs : List A) → ((y : A) → IsIn y zs → test y ≡ true → ⊥) → length zs ≤ length (filter (λ z. not (test z)) zs)
        none_passes [] h = omega arith
        none_passes (y ∷ ys) h = ⊎_elim
            (λ (t : test y ≡ true). absurd (h y (inl refl) t))
            (λ (t : test y ≡ false). rw t (let w = none_passes ys (λ x i. h x (inr i)) in omega (arith, w)))
            (cases_Bool (test y))

    -- elements that differ, each like one of a list, are no more than differ there
    pub few_differ : (xs zs : List A) → ((x y : A) → Before x y zs → alike x y ≡ true → ⊥) → ((z : A) → IsIn z zs → list_any (alike z) xs ≡ true) → length zs ≤ count xs
    few_differ [] [] apart inside = omega arith
    few_differ [] (z ∷ zs) apart inside = absurd (true≢false (sym (inside z (inl refl))))
    few_differ (x ∷ xs) zs apart inside = ⊎_elim
        (λ (t : list_any (alike x) xs ≡ true). rw t (few_differ xs zs apart (λ z i. ⊎_elim
        (λ (s : alike z x ≡ true). let u = any_at (alike x) xs t in any_from (alike z) xs u.0 u.1 (follows z x u.0 s u.2))
        (λ (s : list_any (alike z) xs ≡ true). s)
        (or_cases (alike z x) (list_any (alike z) xs) (inside z i)))))
        (λ (t : list_any (alike x) xs ≡ false).
        let test : A → Bool = λ z. alike z x in
        let rest : List A = filter (λ z. not (test z)) zs in
        let w = all_but_one test zs (λ u v b p q. apart u v b (follows u x v p (flips v x q))) in
        let v = few_differ xs rest (λ a b k. apart a b (before_filter (λ z. not (test z)) zs a b k)) (λ z i.
        let k = in_filter (λ y. not (test y)) zs z i in
        ⊎_elim
        (λ (s : alike z x ≡ true). absurd (true≢false (sym k.1 ∙ ap not s)))
        (λ (s : list_any (alike z) xs ≡ true). s)
        (or_cases (alike z x) (list_any (alike z) xs) (inside z k.0))) in
        rw t (omega (arith, w, v)))
        (cases_Bool (list_any (alike x) xs))

module _ {A : Type 0} (f : A → ℕ) where
  differs : (x : A) (xs : List A) → ((y : A) → IsIn y xs → f x ≡ f y → ⊥) → AllByRecursion (λ n. nat_eq (f x) n ≡ false) (map f xs)
  differs x [] h = tt
  differs x (y ∷ ys) h = (
    ⊎_elim (λ (t : nat_eq (f x) (f y) ≡ true). absurd (h y (inl refl) (eqb-true (f x) (f y) t))) (λ (t : nat_eq (f x) (f y) ≡ false). t) (cases_Bool (nat_eq (f x) (f y))),
    differs x ys (λ z i. h z (inr i)),
  )

  distinct_from : (xs : List A) → ((x y : A) → Before x y xs → f x ≡ f y → ⊥) → IsDistinct nat_eq (map f xs)
  unfolding IsDistinct
  distinct_from [] h = tt
  distinct_from (x ∷ xs) h = (differs x xs (λ y i. h x y (inl (refl, i))), distinct_from xs (λ y z b. h y z (inr b)))

  below_from : (n : ℕ) (xs : List A) → ((x : A) → IsIn x xs → f x < n) → (q : ℕ) → list_any (nat_eq q) (map f xs) ≡ true → q < n
  below_from n [] h q t = absurd (true≢false (sym t))
  below_from n (x ∷ xs) h q t = ⊎_elim
      (λ (e : nat_eq q (f x) ≡ true). subst (λ (k : ℕ). k < n) (sym (eqb-true q (f x) e)) (h x (inl refl)))
      (λ (e : list_any (nat_eq q) (map f xs) ≡ true). below_from n xs (λ y i. h y (inr i)) q e)
      (or_cases (nat_eq q (f x)) (list_any (nat_eq q) (map f xs)) t)

  map_length : (xs : List A) → length (map f xs) ≡ length xs
  map_length [] = refl
  map_length (x ∷ xs) = ap suc (map_length xs)

  -- elements with different numbers below a limit are no more than the limit
  pub few_below : (n : ℕ) (xs : List A) → ((x y : A) → Before x y xs → f x ≡ f y → ⊥) → ((x : A) → IsIn x xs → f x < n) → length xs ≤ n
  few_below n xs apart below =
      let h = length-le_from_distinct_below (map f xs) n (distinct_from xs apart) (below_from n xs below) in
      let e = map_length xs in
      omega (arith, h, e)

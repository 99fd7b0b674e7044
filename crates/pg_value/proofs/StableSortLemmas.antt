-- A list that is sorted, in which elements that tie stand as in another list, is that list in order. So what a stable sort
-- gives is `in_order`.
use Rattle.std.proofs.Common.{◌≡◌, ℕ, suc, ◌+◌, Bool, true, false, not, cond, ◌&&◌, List, [], ◌∷◌, get_or, refl, sym, ◌∙◌, ap, ap₂, subst, arith}
use Rattle.std.proofs.lemmas.Bool.{false≢true}
use Rattle.std.specs.Prelude.{filter}
use Rattle.std.specs.Cmp.{IsStrictWeakOrder}
use Rattle.std.specs.List.{AllByRecursion}
use Rattle.std.specs.List.Sorted.{ties, IsSortedBy, IsStableBy}
use Rattle.std.specs.Ordering.{is_gt}
use Rattle.std.specs.declared.cmp.Ordering.{Ordering}
use Rattle.pg_value.specs.Sorting.{put, in_order}

module _ {X : Type 0} where
  cons-head : (x y : X) (xs ys : List X) → x ∷ xs ≡ y ∷ ys → x ≡ y
  cons-head x y xs ys e = cc

  cons-tail : (x y : X) (xs ys : List X) → x ∷ xs ≡ y ∷ ys → xs ≡ ys
  cons-tail x y xs ys e = cc

  no-cons : (x : X) (xs : List X) → [] ≡ x ∷ xs → ⊥
  no-cons x xs e = cc

  -- an element that passes a test is one of the list's
  of-each : (P : X → Type 0) (test : X → Bool) (x : X) (xs ys : List X) → AllByRecursion P ys → x ∷ xs ≡ filter test ys → P x
  of-each P test x xs [] all e = absurd (no-cons x xs (sym e))
  of-each P test x xs (y ∷ ys) all e = by (test y) (of-each P test x xs ys all.1) e
    where
      by : (b : Bool) → (x ∷ xs ≡ filter test ys → P x) → x ∷ xs ≡ cond b (y ∷ filter test ys) (filter test ys) → P x
      by true later f = subst P (sym (cons-head x y xs (filter test ys) f)) all.0
      by false later f = later f

  module _ (lt : X → X → Bool) (weak : IsStrictWeakOrder lt) where
    -- no element is less than one before it
    abbrev pub IsUp : List X → Type 0
    IsUp [] = Unit {0}
    IsUp (x ∷ xs) = AllByRecursion (λ y. lt y x ≡ false) xs × IsUp xs

    not-less : (x : X) → lt x x ≡ false
    not-less x = by (lt x x) refl
      where
        by : (b : Bool) → lt x x ≡ b → lt x x ≡ false
        by true e = weak.one_way x x e
        by false e = e

    tie-from : (x y : X) → lt x y ≡ false → lt y x ≡ false → ties lt x y ≡ true
    tie-from x y e f = ap₂ (λ a b. not a && not b) e f

    tie-self : (x : X) → ties lt x x ≡ true
    tie-self x = tie-from x x (not-less x) (not-less x)

    -- what passes a test that the first one passes, or fails
    kept-first : (test : X → Bool) (x : X) (xs : List X) → test x ≡ true → filter test (x ∷ xs) ≡ x ∷ filter test xs
    kept-first test x xs e = ap (λ b. cond b (x ∷ filter test xs) (filter test xs)) e

    left-first : (test : X → Bool) (x : X) (xs : List X) → test x ≡ false → filter test (x ∷ xs) ≡ filter test xs
    left-first test x xs e = ap (λ b. cond b (x ∷ filter test xs) (filter test xs)) e

    abbrev pub AreAlike : List X → List X → Type 0
    AreAlike xs ys = (z : X) → filter (ties lt z) xs ≡ filter (ties lt z) ys

    -- the first elements of two sorted lists that are alike
    heads : (x y : X) (xs ys : List X) → IsUp (x ∷ xs) → IsUp (y ∷ ys) → AreAlike (x ∷ xs) (y ∷ ys) → x ≡ y
    heads x y xs ys up vp h = by (ties lt x y) refl
      where
        left : (b : Bool) → ties lt x y ≡ b → b ≡ false → lt x y ≡ false
        left b e f = of-each (λ z. lt z y ≡ false) (ties lt x) x (filter (ties lt x) xs) ys vp.0 (sym (kept-first (ties lt x) x xs (tie-self x)) ∙ h x ∙ left-first (ties lt x) y ys (e ∙ f))

        turned : (b : Bool) → ties lt x y ≡ b → b ≡ false → ties lt y x ≡ false
        turned b e f = swap (lt x y) (lt y x) (e ∙ f)
          where
            swap : (a c : Bool) → (not a && not c) ≡ false → (not c && not a) ≡ false
            swap true true g = refl
            swap true false g = refl
            swap false true g = refl
            swap false false g = g

        right : ties lt x y ≡ false → lt y x ≡ false
        right e = of-each (λ z. lt z x ≡ false) (ties lt y) y (filter (ties lt y) ys) xs up.0 (sym (kept-first (ties lt y) y ys (tie-self y)) ∙ sym (h y) ∙ left-first (ties lt y) x xs (turned false e refl))

        by : (b : Bool) → ties lt x y ≡ b → x ≡ y
        by true e = cons-head x y (filter (ties lt x) xs) (filter (ties lt x) ys) (sym (kept-first (ties lt x) x xs (tie-self x)) ∙ h x ∙ kept-first (ties lt x) y ys e)
        by false e = absurd (false≢true (sym e ∙ tie-from x y (left false e refl) (right e)))

    tails : (x y : X) (xs ys : List X) → x ≡ y → AreAlike (x ∷ xs) (y ∷ ys) → AreAlike xs ys
    tails x y xs ys same h z = by (ties lt z x) refl
      where
        by : (b : Bool) → ties lt z x ≡ b → filter (ties lt z) xs ≡ filter (ties lt z) ys
        by true e = cons-tail x y (filter (ties lt z) xs) (filter (ties lt z) ys) (sym (kept-first (ties lt z) x xs e) ∙ h z ∙ kept-first (ties lt z) y ys (sym (ap (ties lt z) same) ∙ e))
        by false e = sym (left-first (ties lt z) x xs e) ∙ h z ∙ left-first (ties lt z) y ys (sym (ap (ties lt z) same) ∙ e)

    -- two sorted lists that are alike are one
    pub one-sorted : (xs ys : List X) → IsUp xs → IsUp ys → AreAlike xs ys → xs ≡ ys
    one-sorted [] [] up vp h = refl
    one-sorted [] (y ∷ ys) up vp h = absurd (no-cons y (filter (ties lt y) ys) (h y ∙ kept-first (ties lt y) y ys (tie-self y)))
    one-sorted (x ∷ xs) [] up vp h = absurd (no-cons x (filter (ties lt x) xs) (sym (h x) ∙ kept-first (ties lt x) x xs (tie-self x)))
    one-sorted (x ∷ xs) (y ∷ ys) up vp h =
        let same = heads x y xs ys up vp h in
        ap₂ (λ z zs. z ∷ zs) same (one-sorted xs ys up.1 vp.1 (tails x y xs ys same h))

    module _ (order : X → X → Ordering) (is : (x y : X) → is_gt (order x y) ≡ lt y x) where
      pub put-each : (P : X → Type 0) (x : X) (ys : List X) → P x → AllByRecursion P ys → AllByRecursion P (put order x ys)
      put-each P x [] p all = (p, tt)
      put-each P x (y ∷ ys) p all = by (is_gt (order x y)) (put-each P x ys p all.1)
        where
          by : (b : Bool) → AllByRecursion P (put order x ys) → AllByRecursion P (cond b (y ∷ put order x ys) (x ∷ y ∷ ys))
          by true later = (all.0, later)
          by false later = (p, all)

      above : (x y : X) (ys : List X) → lt y x ≡ false → AllByRecursion (λ z. lt z y ≡ false) ys → AllByRecursion (λ z. lt z x ≡ false) ys
      above x y [] e all = tt
      above x y (z ∷ zs) e all = (weak.chain z y x all.0 e, above x y zs e all.1)

      put-up : (x : X) (ys : List X) → IsUp ys → IsUp (put order x ys)
      put-up x [] up = (tt, tt)
      put-up x (y ∷ ys) up = by (is_gt (order x y)) (put-up x ys up.1) (is x y)
        where
          by : (b : Bool) → IsUp (put order x ys) → b ≡ lt y x → IsUp (cond b (y ∷ put order x ys) (x ∷ y ∷ ys))
          by true later e = (put-each (λ z. lt z y ≡ false) x ys (weak.one_way y x (sym e)) up.0, later)
          by false later e = ((sym e, above x y ys (sym e) up.0), up)

      -- no element ties with two of which one is less
      not-both : (z x y : X) → lt y x ≡ true → ties lt z x ≡ true → ties lt z y ≡ true → ⊥
      not-both z x y less e f = false≢true (sym (weak.chain y z x (second (lt z y) (lt y z) f) (first (lt z x) (lt x z) e)) ∙ less)
        where
          first : (a b : Bool) → (not a && not b) ≡ true → a ≡ false
          first false b g = refl
          first true b g = absurd (false≢true g)

          second : (a b : Bool) → (not a && not b) ≡ true → b ≡ false
          second a false g = refl
          second false true g = absurd (false≢true g)
          second true true g = absurd (false≢true g)

      put-alike : (x : X) (ys : List X) → AreAlike (put order x ys) (x ∷ ys)
      put-alike x [] z = refl
      put-alike x (y ∷ ys) z = by (is_gt (order x y)) (put-alike x ys z) (is x y)
        where
          two : (a b : Bool) → (a ≡ true → b ≡ true → ⊥) → (us : List X) → cond b (y ∷ cond a (x ∷ us) us) (cond a (x ∷ us) us) ≡ cond a (x ∷ cond b (y ∷ us) us) (cond b (y ∷ us) us)
          two true true not_both us = absurd (not_both refl refl)
          two true false not_both us = refl
          two false true not_both us = refl
          two false false not_both us = refl

          by : (b : Bool) → filter (ties lt z) (put order x ys) ≡ filter (ties lt z) (x ∷ ys) → b ≡ lt y x → filter (ties lt z) (cond b (y ∷ put order x ys) (x ∷ y ∷ ys)) ≡ filter (ties lt z) (x ∷ y ∷ ys)
          by true later e = ap (λ us. cond (ties lt z y) (y ∷ us) us) later ∙ two (ties lt z x) (ties lt z y) (not-both z x y (sym e)) (filter (ties lt z) ys)
          by false later e = refl

      pub in_order-up : (xs : List X) → IsUp (in_order order xs)
      in_order-up [] = tt
      in_order-up (x ∷ xs) = put-up x (in_order order xs) (in_order-up xs)

      pub in_order-alike : (xs : List X) → AreAlike (in_order order xs) xs
      in_order-alike [] z = refl
      in_order-alike (x ∷ xs) z = put-alike x (in_order order xs) z ∙ ap (λ us. cond (ties lt z x) (x ∷ us) us) (in_order-alike xs z)

      pub up-from : (xs : List X) → IsSortedBy lt xs → IsUp xs
      up-from [] h = tt
      up-from (x ∷ []) h = (tt, tt)
      up-from (x ∷ y ∷ ys) h =
          let rest = up-from (y ∷ ys) (λ k d low in_range. shifted k d (h (suc k) d (omega arith) (omega (arith, in_range)))) in
          let e : lt y x ≡ false = h 0 x (omega arith) (omega arith) in
          ((e, above x y ys e rest.0), rest)
        where
          shifted : (k : ℕ) (d : X) → lt (get_or (x ∷ y ∷ ys) (suc k + 1) d) (get_or (x ∷ y ∷ ys) (suc k) d) ≡ false → lt (get_or (y ∷ ys) (k + 1) d) (get_or (y ∷ ys) k d) ≡ false
          shifted k d e = let same : suc k + 1 ≡ suc (k + 1) = omega arith in subst (λ n. lt (get_or (x ∷ y ∷ ys) n d) (get_or (y ∷ ys) k d) ≡ false) same e

      -- what is sorted and stable is in order
      pub stable-only : (xs ys : List X) → IsSortedBy lt ys → IsStableBy lt xs ys → ys ≡ in_order order xs
      stable-only xs ys sorted stable = one-sorted ys (in_order order xs) (up-from ys sorted) (in_order-up xs) (λ z. stable z ∙ sym (in_order-alike xs z))

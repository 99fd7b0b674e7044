-- What a stable sort leaves does not depend on where elements stand, where those that tie are equal; and it may be taken before a filter or after it.
use Rattle.std.proofs.Common.{◌≡◌, Bool, true, false, not, cond, List, [], ◌∷◌, ◌++◌, filter, refl, sym, ap, ap₂, ◌∙◌, Ordering, Less, Equal, Greater}
use Rattle.std.specs.Prelude.{IsFalse, All}
use Rattle.std.specs.Cmp.{IsTotalOrder}
use Rattle.std.specs.List.Sorted.{ties}
use Rattle.std.specs.Ordering.{is_gt, is_lt, ordering_reverse}
use Rattle.std.proofs.lemmas.Bool.{false≢true, and_parts}
use Rattle.std.proofs.lemmas.List.{append_assoc, append-nil}
use Rattle.std.proofs.lemmas.List.Elements.{filter-append, All-head, All-tail}
use Rattle.std.proofs.lemmas.List.Kept.{AllPairs-filter}
use Rattle.pg_value.specs.Sorting.{in_order}
use Rattle.pg_value.proofs.SortingLemmas.{lesser, weak, after_is, in_order_is, in_order_fixed}
use Rattle.pg_value.proofs.StableSortLemmas.{in_order-up, in_order-alike, one-sorted}

module _ {X : Type 0} (order : X → X → Ordering) (total : IsTotalOrder order) where
  abbrev lt : X → X → Bool
  lt = lesser order total

  -- lists that have the same elements that tie with each one
  pub alike_same : (xs ys : List X) → ((z : X) → filter (ties lt z) xs ≡ filter (ties lt z) ys) → in_order order xs ≡ in_order order ys
  alike_same xs ys h =
      one-sorted lt (weak order total) (in_order order xs) (in_order order ys) (in_order-up lt (weak order total) order (after_is order total) xs) (in_order-up lt (weak order total) order (after_is order total) ys)
      (λ z. in_order-alike lt (weak order total) order (after_is order total) xs z ∙ h z ∙ sym (in_order-alike lt (weak order total) order (after_is order total) ys z))

  swapped : (p q : X → Bool) (xs : List X) → filter p (filter q xs) ≡ filter q (filter p xs)
  swapped p q [] = refl
  swapped p q (x ∷ xs) = by (p x) refl (q x) refl (swapped p q xs)
    where
      by : (b : Bool) → p x ≡ b → (c : Bool) → q x ≡ c → filter p (filter q xs) ≡ filter q (filter p xs) → filter p (cond c (x ∷ filter q xs) (filter q xs)) ≡ filter q (cond b (x ∷ filter p xs) (filter p xs))
      by true e true f more = ap (λ b. cond b (x ∷ filter p (filter q xs)) (filter p (filter q xs))) e ∙ ap (λ l. x ∷ l) more ∙ sym (ap (λ b. cond b (x ∷ filter q (filter p xs)) (filter q (filter p xs))) f)
      by true e false f more = more ∙ sym (ap (λ b. cond b (x ∷ filter q (filter p xs)) (filter q (filter p xs))) f)
      by false e true f more = ap (λ b. cond b (x ∷ filter p (filter q xs)) (filter p (filter q xs))) e ∙ more
      by false e false f more = more

  -- a filter of the sorted list is the sorted filter
  pub sorted_filter : (p : X → Bool) (xs : List X) → filter p (in_order order xs) ≡ in_order order (filter p xs)
  sorted_filter p xs =
      sym (in_order_fixed order total (filter p (in_order order xs)) (AllPairs-filter (λ x y. IsFalse (is_gt (order x y))) p (in_order order xs) (in_order_is order total xs)))
      ∙ alike_same (filter p (in_order order xs)) (filter p xs) (λ z.
      swapped (ties lt z) p (in_order order xs)
      ∙ ap (filter p) (in_order-alike lt (weak order total) order (after_is order total) xs z)
      ∙ swapped p (ties lt z) xs)

  -- where elements that tie are equal, as far as P holds of them
  module _ (P : X → Type 0) (same : (x y : X) → P x → P y → order x y ≡ Equal → x ≡ y) where
    tied : (z x : X) → ties lt z x ≡ true → order z x ≡ Equal
    tied z x h =
        let both = and_parts (not (lt z x)) (not (lt x z)) h in
        neither (order z x) (order x z) (total.antisymm z x) both.0 both.1
      where
        neither : (o r : Ordering) → o ≡ ordering_reverse r → not (is_lt o) ≡ true → not (is_lt r) ≡ true → o ≡ Equal
        neither Less r e h g = absurd (false≢true h)
        neither Equal r e h g = refl
        neither Greater Less e h g = absurd (false≢true g)
        neither Greater Equal e h g = cc
        neither Greater Greater e h g = cc

    tie_same : (z y x : X) → P y → P x → ties lt z y ≡ true → ties lt z x ≡ true → y ≡ x
    tie_same z y x py px h g = same y x py px (sym (total.congr z y x (tied z y h)) ∙ tied z x g)

    -- an element that ties stands with its equals, before them or behind them
    turned : (z y : X) (zs : List X) → P y → All P zs → ties lt z y ≡ true → y ∷ filter (ties lt z) zs ≡ filter (ties lt z) zs ++ y ∷ []
    turned z y [] py ps h = refl
    turned z y (x ∷ zs) py ps h = by (ties lt z x) refl (turned z y zs py (All-tail P x zs ps) h)
      where
        by : (b : Bool) → ties lt z x ≡ b → y ∷ filter (ties lt z) zs ≡ filter (ties lt z) zs ++ y ∷ [] → y ∷ cond b (x ∷ filter (ties lt z) zs) (filter (ties lt z) zs) ≡ cond b (x ∷ filter (ties lt z) zs) (filter (ties lt z) zs) ++ y ∷ []
        by true e more =
            let is : y ≡ x = tie_same z y x py (All-head P x zs ps) h e in
            ap₂ (λ a b. a ∷ b ∷ filter (ties lt z) zs) is (sym is) ∙ ap (λ l. x ∷ l) more
        by false e more = more

    -- an element may stand at the end instead
    pub sorted_moved : (xs zs : List X) (y : X) → P y → All P zs → in_order order (xs ++ y ∷ zs) ≡ in_order order ((xs ++ zs) ++ y ∷ [])
    sorted_moved xs zs y py ps = alike_same (xs ++ y ∷ zs) ((xs ++ zs) ++ y ∷ []) (λ z.
        filter-append (ties lt z) xs (y ∷ zs)
        ∙ ap (λ l. filter (ties lt z) xs ++ l) (by z (ties lt z y) refl)
        ∙ sym (append_assoc (filter (ties lt z) xs) (filter (ties lt z) zs) (filter (ties lt z) (y ∷ [])))
        ∙ ap (λ l. l ++ filter (ties lt z) (y ∷ [])) (sym (filter-append (ties lt z) xs zs))
        ∙ sym (filter-append (ties lt z) (xs ++ zs) (y ∷ [])))
      where
        by : (z : X) (b : Bool) → ties lt z y ≡ b → cond b (y ∷ filter (ties lt z) zs) (filter (ties lt z) zs) ≡ filter (ties lt z) zs ++ cond b (y ∷ []) []
        by z true e = turned z y zs py ps e
        by z false e = sym (append-nil (filter (ties lt z) zs))

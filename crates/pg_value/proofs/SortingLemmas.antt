-- Lists in an order, and the place where one more element goes.
use Rattle.std.proofs.Common.{◌≡◌, ℕ, zero, suc, ◌+◌, ◌<◌, ◌≤◌, Bool, true, false, not, cond, List, [], ◌∷◌, ◌++◌, All, take, drop, length, get_or, refl, sym, ap, ◌∙◌, arith, Ordering, Less, Equal, Greater}
use Rattle.std.specs.Prelude.{filter}
use Rattle.std.specs.Cmp.{IsTotalOrder, IsStrictWeakOrder}
use Rattle.std.specs.List.{AllByRecursion}
use Rattle.std.specs.List.Sorted.{ties, IsSortedBy, IsStableBy, IsPartitionedBy, IsPartitionPoint}
use Rattle.std.specs.Ordering.{is_gt, is_lt, ordering_reverse}
use Rattle.std.proofs.lemmas.Bool.{not-true, not-false}
use Rattle.std.proofs.lemmas.List.Elements.{All-from_recursion, recursion_from_All, filter-append}
use Rattle.std.proofs.lemmas.List.Sorted.{ranks_by, sorted_far}
use Rattle.pg_value.specs.Sorting.{IsInOrder, put, in_order}
use Rattle.pg_value.proofs.StableSortLemmas.{IsUp, in_order-up, in_order-alike, put-each, one-sorted, stable-only}

greater_reversed : (o : Ordering) → is_gt o ≡ is_lt (ordering_reverse o)
greater_reversed Less = refl
greater_reversed Equal = refl
greater_reversed Greater = refl

module _ {X : Type 0} (order : X → X → Ordering) (total : IsTotalOrder order) where
  abbrev pub lesser : X → X → Bool
  lesser x y = is_lt (order x y)

  pub weak : IsStrictWeakOrder lesser
  weak = ranks_by total (λ (x : X). x)

  pub after_is : (x y : X) → is_gt (order x y) ≡ lesser y x
  after_is x y = greater_reversed (order x y) ∙ ap is_lt (sym (total.antisymm y x))

  -- by recursion and by places
  up_from_pairs : (xs : List X) → IsInOrder order xs → IsUp lesser weak xs
  up_from_pairs [] h = tt
  up_from_pairs (x ∷ xs) h = (
    recursion_from_All (λ y. lesser y x ≡ false) xs (λ k d lt. sym (after_is x (get_or xs k d)) ∙ h 0 (suc k) d (omega arith) (omega arith)),
    up_from_pairs xs (λ i j d lt within. h (suc i) (suc j) d (omega arith) (omega arith)),
  )

  pairs_from_up : (xs : List X) → IsUp lesser weak xs → IsInOrder order xs
  pairs_from_up [] up i j d lt within = absurd (omega arith)
  pairs_from_up (x ∷ xs) up zero zero d lt within = absurd (omega arith)
  pairs_from_up (x ∷ xs) up zero (suc j) d lt within = after_is x (get_or xs j d) ∙ All-from_recursion (λ y. lesser y x ≡ false) xs up.0 j d (omega arith)
  pairs_from_up (x ∷ xs) up (suc i) zero d lt within = absurd (omega arith)
  pairs_from_up (x ∷ xs) up (suc i) (suc j) d lt within = pairs_from_up xs up.1 i j d (omega arith) (omega arith)

  -- a stable sort gives a list in order
  pub in_order_is : (xs : List X) → IsInOrder order (in_order order xs)
  in_order_is xs = pairs_from_up (in_order order xs) (in_order-up lesser weak order after_is xs)

  -- a list in order is its own stable sort
  pub in_order_fixed : (xs : List X) → IsInOrder order xs → in_order order xs ≡ xs
  in_order_fixed xs h = one-sorted lesser weak (in_order order xs) xs (in_order-up lesser weak order after_is xs) (up_from_pairs xs h) (in_order-alike lesser weak order after_is xs)

  -- what a stable sort of std gives
  pub in_order_only : (xs ys : List X) → IsSortedBy lesser ys → IsStableBy lesser xs ys → ys ≡ in_order order xs
  in_order_only xs ys sorted stable = stable-only lesser weak order after_is xs ys sorted stable

  -- a part that was sorted before may stand unsorted
  pub in_order_again : (xs ys : List X) → in_order order (in_order order xs ++ ys) ≡ in_order order (xs ++ ys)
  in_order_again xs ys =
      one-sorted lesser weak (in_order order (in_order order xs ++ ys)) (in_order order (xs ++ ys))
      (in_order-up lesser weak order after_is (in_order order xs ++ ys)) (in_order-up lesser weak order after_is (xs ++ ys))
      (λ z. in_order-alike lesser weak order after_is (in_order order xs ++ ys) z
      ∙ filter-append (ties lesser z) (in_order order xs) ys
      ∙ ap (λ us. us ++ filter (ties lesser z) ys) (in_order-alike lesser weak order after_is xs z)
      ∙ sym (filter-append (ties lesser z) xs ys)
      ∙ sym (in_order-alike lesser weak order after_is (xs ++ ys) z))

  -- each element keeps a property
  each_in_order : (P : X → Type 0) (xs : List X) → AllByRecursion P xs → AllByRecursion P (in_order order xs)
  each_in_order P [] h = tt
  each_in_order P (x ∷ xs) h = put-each lesser weak order after_is P x (in_order order xs) h.0 (each_in_order P xs h.1)

  pub All-in_order : (P : X → Type 0) (xs : List X) → All P xs → All P (in_order order xs)
  All-in_order P xs h = All-from_recursion P (in_order order xs) (each_in_order P xs (recursion_from_All P xs h))

  -- in a list in order those that are not after an element stand first
  not_after : (x y : X) → not (is_gt (order y x)) ≡ true → lesser x y ≡ false
  not_after x y e = sym (after_is y x) ∙ not-true (is_gt (order y x)) e

  pub same_or_later : (ys : List X) → IsInOrder order ys → (i j : ℕ) (d : X) → i ≤ j → j < length ys → lesser (get_or ys j d) (get_or ys i d) ≡ false
  same_or_later ys h i j d le within = sorted_far lesser weak ys (λ k c low high. sym (after_is (get_or ys k c) (get_or ys (k + 1) c)) ∙ h k (k + 1) c (omega arith) (omega arith)) i j d le within

  pub before_first : (x : X) (ys : List X) → IsInOrder order ys → IsPartitionedBy (λ y. not (is_gt (order y x))) ys
  before_first x ys h i j d le within e =
      let before : is_gt (order (get_or ys i d) x) ≡ false = after_is (get_or ys i d) x ∙ weak.chain x (get_or ys j d) (get_or ys i d) (not_after x (get_or ys j d) e) (same_or_later ys h i j d le within) in
      ap not before

  -- what is not after any of a list goes to its front
  put_first : (y : X) (ys : List X) → AllByRecursion (λ z. is_gt (order y z) ≡ false) ys → put order y ys ≡ y ∷ ys
  put_first y [] h = refl
  put_first y (z ∷ zs) h = ap (λ b. cond b (z ∷ put order y zs) (y ∷ z ∷ zs)) h.0

  each_push : (P : X → Type 0) (x : X) (ys : List X) → AllByRecursion P ys → P x → AllByRecursion P (ys ++ x ∷ [])
  each_push P x [] h p = (p, tt)
  each_push P x (y ∷ ys) h p = (h.0, each_push P x ys h.1 p)

  -- none of the list behind its first is before it
  first_of : (y : X) (ys : List X) → IsInOrder order (y ∷ ys) → AllByRecursion (λ z. is_gt (order y z) ≡ false) ys
  first_of y ys h = recursion_from_All (λ z. is_gt (order y z) ≡ false) ys (λ k d lt. h 0 (suc k) d (omega arith) (omega arith))

  -- the place behind the elements that are not after one more is where that one goes
  pub placed_in_order : (x : X) (ys : List X) (p : ℕ) → IsInOrder order ys → p ≤ length ys
      → IsPartitionPoint (λ y. not (is_gt (order y x)) ≡ true) (λ y. not (is_gt (order y x)) ≡ false) ys p
      → take p ys ++ x ∷ drop p ys ≡ in_order order (ys ++ x ∷ [])
  placed_in_order x [] zero h le parts = refl
  placed_in_order x [] (suc p) h le parts = absurd (omega arith)
  placed_in_order x (y ∷ ys) zero h le parts =
      let later : is_gt (order y x) ≡ true = not-false (is_gt (order y x)) (parts.1 0 y (omega arith) (omega arith)) in
      let rest : x ∷ ys ≡ in_order order (ys ++ x ∷ []) = placed_in_order x ys zero (λ i j d lt within. h (suc i) (suc j) d (omega arith) (omega arith)) (omega arith) ((λ k d low high. absurd (omega arith)), (λ k d low high. parts.1 (suc k) d (omega arith) (omega arith))) in
      ap (λ us. x ∷ us) (sym (put_first y ys (first_of y ys h)))
      ∙ ap (λ b. cond b (x ∷ put order y ys) (y ∷ x ∷ ys)) (sym later)
      ∙ ap (put order y) rest
  placed_in_order x (y ∷ ys) (suc p) h le parts =
      let before : is_gt (order y x) ≡ false = not-true (is_gt (order y x)) (parts.0 0 y (omega arith) (omega arith)) in
      let rest : take p ys ++ x ∷ drop p ys ≡ in_order order (ys ++ x ∷ []) = placed_in_order x ys p (λ i j d lt within. h (suc i) (suc j) d (omega arith) (omega arith)) (omega arith) ((λ k d low high. parts.0 (suc k) d (omega arith) (omega arith)), (λ k d low high. parts.1 (suc k) d (omega arith) (omega arith))) in
      ap (λ us. y ∷ us) rest
      ∙ sym (put_first y (in_order order (ys ++ x ∷ [])) (each_in_order (λ z. is_gt (order y z) ≡ false) (ys ++ x ∷ []) (each_push (λ z. is_gt (order y z) ≡ false) x ys (first_of y ys h) before)))

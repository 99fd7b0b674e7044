-- Some elements of a list in order are those elements in order.
use Rattle.std.proofs.Common.{◌≡◌, Bool, true, false, cond, List, [], ◌∷◌, filter, refl, sym, ap, ◌∙◌, Ordering}
use Rattle.std.specs.Prelude.{IsFalse}
use Rattle.std.specs.Cmp.{IsTotalOrder}
use Rattle.std.specs.List.Sorted.{ties}
use Rattle.std.specs.Ordering.{is_gt}
use Rattle.std.proofs.lemmas.List.Kept.{AllPairs-filter}
use Rattle.pg_value.specs.Sorting.{IsInOrder, in_order}
use Rattle.pg_value.proofs.SortingLemmas.{lesser, weak, after_is, in_order_is, in_order_fixed}
use Rattle.pg_value.proofs.StableSortLemmas.{in_order-up, in_order-alike, one-sorted}
use Rattle.pg_base.proofs.ListLemmas.{filters-swapped}

two-tests : {X : Type 0} (x : X) (a b : Bool) (p q : X → Bool) (l : List X) → p x ≡ a → q x ≡ b → filter p (filter q l) ≡ filter q (filter p l)
    → filter p (cond b (x ∷ filter q l) (filter q l)) ≡ filter q (cond a (x ∷ filter p l) (filter p l))
two-tests x true true p q l e f h = ap (λ c. cond c (x ∷ filter p (filter q l)) (filter p (filter q l))) e ∙ ap (λ k. x ∷ k) h ∙ sym (ap (λ c. cond c (x ∷ filter q (filter p l)) (filter q (filter p l))) f)
two-tests x true false p q l e f h = h ∙ sym (ap (λ c. cond c (x ∷ filter q (filter p l)) (filter q (filter p l))) f)
two-tests x false true p q l e f h = ap (λ c. cond c (x ∷ filter p (filter q l)) (filter p (filter q l))) e ∙ h
two-tests x false false p q l e f h = h

module _ {X : Type 0} (order : X → X → Ordering) (total : IsTotalOrder order) where
  pub filter-in_order : (p : X → Bool) (xs : List X) → filter p (in_order order xs) ≡ in_order order (filter p xs)
  filter-in_order p xs =
      let lt : X → X → Bool = lesser order total in
      let up = in_order-up lt (weak order total) order (after_is order total) in
      let alike = in_order-alike lt (weak order total) order (after_is order total) in
      let kept : IsInOrder order (filter p (in_order order xs)) = AllPairs-filter (λ x y. IsFalse (is_gt (order x y))) p (in_order order xs) (in_order_is order total xs) in
      sym (in_order_fixed order total (filter p (in_order order xs)) kept)
      ∙ one-sorted lt (weak order total) (in_order order (filter p (in_order order xs))) (in_order order (filter p xs)) (up (filter p (in_order order xs))) (up (filter p xs))
      (λ z. alike (filter p (in_order order xs)) z
      ∙ filters-swapped (ties lt z) p (in_order order xs)
      ∙ ap (filter p) (alike xs z)
      ∙ filters-swapped p (ties lt z) xs
      ∙ sym (alike (filter p xs) z))

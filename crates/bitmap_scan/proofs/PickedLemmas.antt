-- The elements that are picked of a list are one list.
use Rattle.std.proofs.Common.{◌≡◌, ◌⊎◌, List, [], ◌∷◌, refl, sym, ◌∙◌, ap, inl, inr}
use Rattle.plan_tree.specs.Bitmaps.{ArePicked, none_left, picked, passed}

module _ {X : Type 0} (P : X → Type 0) where
  -- what is picked of a list, by its first item
  abbrev PickedOf : List X → List X → Type 0
  PickedOf [] ys = ys ≡ []
  PickedOf (x ∷ xs) ys = ((zs : List X) × P x × ArePicked P xs zs × (ys ≡ x ∷ zs)) ⊎ ((¬ P x) × ArePicked P xs ys)

  picked-of : (xs ys : List X) → ArePicked P xs ys → PickedOf xs ys
  picked-of _ _ none_left = refl
  picked-of _ _ (picked x xs ys h rest) = inl (ys, h, rest, refl)
  picked-of _ _ (passed x xs ys h rest) = inr (h, rest)

  pub picked-once : (xs ys zs : List X) → ArePicked P xs ys → ArePicked P xs zs → ys ≡ zs
  picked-once [] ys zs a b = picked-of [] ys a ∙ sym (picked-of [] zs b)
  picked-once (x ∷ xs) ys zs a b = elim (picked-of (x ∷ xs) ys a) [
    | inl h ↦ elim (picked-of (x ∷ xs) zs b) [
      | inl k ↦ h.3 ∙ ap (λ (l : List X). x ∷ l) (picked-once xs h.0 k.0 h.2 k.2) ∙ sym k.3
      | inr k ↦ absurd (k.0 h.1)
    ]
    | inr h ↦ elim (picked-of (x ∷ xs) zs b) [
      | inl k ↦ absurd (h.0 k.1)
      | inr k ↦ picked-once xs ys zs h.1 k.1
    ]
  ]

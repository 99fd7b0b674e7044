-- Where those that tie are of one group, the tuples of a group stand side by side in a sorted list.
use Rattle.std.proofs.Common.{◌≡◌, ℕ, ◌<◌, false, List, [], ◌∷◌, length, map, get_or, refl, sym, subst, ap, ap₂, ◌∙◌, arith, Ordering, Less, Equal, Greater}
use Rattle.std.specs.Prelude.{All}
use Rattle.std.specs.Cmp.{IsTotalOrder, Equal-is}
use Rattle.std.specs.Ordering.{is_eq, is_gt, ordering_reverse}
use Rattle.std.proofs.lemmas.Bool.{true≢false}
use Rattle.std.proofs.lemmas.List.{get_or-map, length-map}
use Rattle.pg_value.specs.Sorting.{IsInOrder}
use Rattle.group_values.specs.Groups.{Seen, alike}
use Rattle.group_values.specs.work.Neighbours.{AreTogether, seen_at}

module _ {X : Type 0} (order : X → X → Ordering) (total : IsTotalOrder order) where
  -- one between two that tie ties with them
  between : (a b c : X) → (o r : Ordering) → order a b ≡ o → order b c ≡ r → is_gt o ≡ false → is_gt r ≡ false → order a c ≡ Equal → order a b ≡ Equal
  between a b c Greater r e f g h same = absurd (true≢false g)
  between a b c Equal r e f g h same = e
  between a b c Less Greater e f g h same = absurd (true≢false h)
  between a b c Less Less e f g h same = absurd (no (sym (total.trans a b c e f) ∙ same))
    where
      no : Less ≡ Equal → ⊥
      no h = cc
  between a b c Less Equal e f g h same = total.antisymm a b ∙ ap ordering_reverse (total.congr b c a f) ∙ sym (total.antisymm a c) ∙ same

  module _ (f : X → Seen) (P : X → Type 0) (tied : (x y : X) → P x → P y → is_eq (order x y) ≡ alike (f x) (f y)) where
    pub sorted-together : (xs : List X) → All P xs → IsInOrder order xs → AreTogether (map f xs)
    sorted-together [] ps up i j k ij jk within like = absurd (omega (arith, within))
    sorted-together (x ∷ xs) ps up i j k ij jk within like =
        let many : length (map f (x ∷ xs)) ≡ length (x ∷ xs) = length-map (x ∷ xs) f in
        let last : k < length (x ∷ xs) = omega (arith, within, many) in
        let at = λ (n : ℕ). get_or (x ∷ xs) n x in
        let blank : Seen = record { keys = []; args = [] } in
        let a : seen_at (map f (x ∷ xs)) i ≡ f (at i) = get_or-map f (x ∷ xs) i x blank (omega (arith, last, ij, jk)) in
        let b : seen_at (map f (x ∷ xs)) j ≡ f (at j) = get_or-map f (x ∷ xs) j x blank (omega (arith, last, jk)) in
        let c : seen_at (map f (x ∷ xs)) k ≡ f (at k) = get_or-map f (x ∷ xs) k x blank last in
        let p = ps i x (omega (arith, last, ij, jk)) in
        let q = ps j x (omega (arith, last, jk)) in
        let ends : order (at i) (at k) ≡ Equal = (Equal-is (order (at i) (at k))).0 (tied (at i) (at k) p (ps k x last) ∙ sym (ap₂ alike a c) ∙ like) in
        let mid : order (at i) (at j) ≡ Equal = between (at i) (at j) (at k) (order (at i) (at j)) (order (at j) (at k)) refl refl (up i j x ij (omega (arith, last, jk))) (up j k x jk last) ends in
        ap₂ alike a b ∙ sym (tied (at i) (at j) p q) ∙ ap is_eq mid

map-same : (ss : List Seen) → map (λ s. s) ss ≡ ss
map-same [] = refl
map-same (s ∷ ss) = ap (λ l. s ∷ l) (map-same ss)

pub sorted-neighbours : (order : Seen → Seen → Ordering) → IsTotalOrder order → ((s t : Seen) → is_eq (order s t) ≡ alike s t) → (ss : List Seen) → IsInOrder order ss → AreTogether ss
sorted-neighbours order total tied ss up =
    subst AreTogether (map-same ss) (sorted-together order total (λ s. s) (λ s. Unit {0}) (λ s t p q. tied s t) ss (λ i d lt. tt) up)

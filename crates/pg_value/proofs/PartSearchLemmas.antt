-- Two searches find the elements that stand in a part, where along a list those before it, in it and after it follow one another.
use Rattle.std.proofs.Common.{◌≡◌, ℕ, suc, ◌+◌, ◌-◌, ◌<◌, ◌≤◌, min, Bool, true, false, cond, List, [], ◌∷◌, ◌++◌, take, drop, length, get_or, filter, refl, sym, ap, ap₂, ◌∙◌, subst, arith, length-drop, get_or-take, get_or-drop, append-nil, Ordering, Less, Equal, Greater}
use Rattle.std.specs.List.Sorted.{IsPartitionedBy, IsPartitionPoint, IsNonDecreasingBy}
use Rattle.std.specs.Ordering.{is_lt, is_le, is_eq, ordering_index}
use Rattle.std.proofs.lemmas.Bool.{true≢false, false≢true}
use Rattle.std.proofs.lemmas.List.{length-take, take-append-drop}
use Rattle.std.proofs.lemmas.List.Elements.{filter-append}

-- a list of which the elements between two places pass a test
pub filter_none : {A : Type 0} (p : A → Bool) (xs : List A) → ((k : ℕ) (d : A) → k < length xs → p (get_or xs k d) ≡ false) → filter p xs ≡ []
filter_none p [] h = refl
filter_none p (x ∷ xs) h = ap₂ (λ b l. cond b (x ∷ l) l) (h 0 x (omega arith)) (filter_none p xs (λ k d lt. h (suc k) d (omega arith)))

pub filter_every : {A : Type 0} (p : A → Bool) (xs : List A) → ((k : ℕ) (d : A) → k < length xs → p (get_or xs k d) ≡ true) → filter p xs ≡ xs
filter_every p [] h = refl
filter_every p (x ∷ xs) h = ap₂ (λ b l. cond b (x ∷ l) l) (h 0 x (omega arith)) (filter_every p xs (λ k d lt. h (suc k) d (omega arith)))

filter_between : {A : Type 0} (p : A → Bool) (xs : List A) (start count : ℕ)
    → ((k : ℕ) (d : A) → k < start → k < length xs → p (get_or xs k d) ≡ false)
    → ((k : ℕ) (d : A) → k < count → start + k < length xs → p (get_or xs (start + k) d) ≡ true)
    → ((k : ℕ) (d : A) → count ≤ k → start + k < length xs → p (get_or xs (start + k) d) ≡ false)
    → filter p xs ≡ take count (drop start xs)
filter_between p xs start count low mid high =
    let front : filter p (take start xs) ≡ [] = filter_none p (take start xs) (λ k d lt. let short : k < min start (length xs) = rw length-take at lt in ap p (get_or-take start xs k d (omega arith)) ∙ low k d (omega arith) (omega arith)) in
    let part : filter p (take count (drop start xs)) ≡ take count (drop start xs) = filter_every p (take count (drop start xs)) (λ k d lt.
    let short : k < min count (length (drop start xs)) = rw length-take at lt in
    ap p (get_or-take count (drop start xs) k d (omega arith) ∙ get_or-drop start xs k d) ∙ mid k d (omega arith) (omega (arith, length-drop start xs))) in
    let back : filter p (drop count (drop start xs)) ≡ [] = filter_none p (drop count (drop start xs)) (λ k d lt.
    let long : k < length (drop start xs) - count = rw length-drop at lt in
    let place : start + (count + k) < length xs = omega (arith, length-drop start xs) in
    ap p (get_or-drop count (drop start xs) k d ∙ get_or-drop start xs (count + k) d) ∙ high (count + k) d (omega arith) place) in
    ap (filter p) (sym (take-append-drop start xs)) ∙ filter-append p (take start xs) (drop start xs)
    ∙ ap₂ (λ a b. a ++ b) front
    (ap (filter p) (sym (take-append-drop count (drop start xs))) ∙ filter-append p (take count (drop start xs)) (drop count (drop start xs)) ∙ ap₂ (λ a b. a ++ b) part back ∙ append-nil (take count (drop start xs)))

low_index : (o : Ordering) → is_lt o ≡ true → ordering_index o ≡ 0
low_index Less h = refl
low_index Equal h = absurd (false≢true h)
low_index Greater h = absurd (false≢true h)

at_low : (o : Ordering) → ordering_index o ≡ 0 → is_lt o ≡ true
at_low Less h = refl
at_low Equal h = absurd (omega arith)
at_low Greater h = absurd (omega arith)

mid_index : (o : Ordering) → is_le o ≡ true → ordering_index o ≤ 1
mid_index Less h = omega arith
mid_index Equal h = omega arith
mid_index Greater h = absurd (false≢true h)

at_mid : (o : Ordering) → ordering_index o ≤ 1 → is_le o ≡ true
at_mid Less h = refl
at_mid Equal h = refl
at_mid Greater h = absurd (omega arith)

not_low : (o : Ordering) → is_lt o ≡ true → is_eq o ≡ false
not_low Less h = refl
not_low Equal h = absurd (false≢true h)
not_low Greater h = refl

not_high : (o : Ordering) → is_le o ≡ false → is_eq o ≡ false
not_high Less h = refl
not_high Equal h = absurd (true≢false h)
not_high Greater h = refl

between : (o : Ordering) → is_lt o ≡ false → is_le o ≡ true → is_eq o ≡ true
between Less h g = absurd (true≢false h)
between Equal h g = refl
between Greater h g = absurd (false≢true g)

module _ {X : Type 0} (side : X → Ordering) (xs : List X) (rises : IsNonDecreasingBy (λ x. ordering_index (side x)) xs) where
  -- the elements before the part stand first
  pub starts : IsPartitionedBy (λ x. is_lt (side x)) xs
  starts i j d le lt h = at_low (side (get_or xs i d)) (omega (arith, rises i j d le lt, low_index (side (get_or xs j d)) h))

  ends : (start : ℕ) → IsPartitionedBy (λ x. is_le (side x)) (drop start xs)
  ends start i j d le lt h =
      ap (λ x. is_le (side x)) (get_or-drop start xs i d)
      ∙ at_mid (side (get_or xs (start + i) d))
      (omega (arith, rises (start + i) (start + j) d (omega arith) (omega (arith, length-drop start xs)), mid_index (side (get_or xs (start + j) d)) (sym (ap (λ x. is_le (side x)) (get_or-drop start xs j d)) ∙ h)))

  found : (start count : ℕ)
      → IsPartitionPoint (λ x. is_lt (side x) ≡ true) (λ x. is_lt (side x) ≡ false) xs start
      → IsPartitionPoint (λ x. is_le (side x) ≡ true) (λ x. is_le (side x) ≡ false) (drop start xs) count
      → take count (drop start xs) ≡ filter (λ x. is_eq (side x)) xs
  found start count one two =
      sym (filter_between (λ x. is_eq (side x)) xs start count
      (λ k d lt within. not_low (side (get_or xs k d)) (one.0 k d (omega arith) lt))
      (λ k d lt within. between (side (get_or xs (start + k) d)) (one.1 (start + k) d (omega arith) within) (sym (ap (λ x. is_le (side x)) (get_or-drop start xs k d)) ∙ two.0 k d (omega arith) lt))
      (λ k d ge within. not_high (side (get_or xs (start + k) d)) (sym (ap (λ x. is_le (side x)) (get_or-drop start xs k d)) ∙ two.1 k d ge (omega (arith, length-drop start xs)))))

  -- behind a place the elements not after the part stand first
  pub ends_of : (reached : List X) (start : ℕ) → reached ≡ drop start xs → IsPartitionedBy (λ x. is_le (side x)) reached
  ends_of reached start same = subst (λ (l : List X). IsPartitionedBy (λ x. is_le (side x)) l) (sym same) (ends start)

  -- what two searches find
  pub found_part : (reached : List X) (start count : ℕ) → reached ≡ drop start xs
      → IsPartitionPoint (λ x. is_lt (side x) ≡ true) (λ x. is_lt (side x) ≡ false) xs start
      → IsPartitionPoint (λ x. is_le (side x) ≡ true) (λ x. is_le (side x) ≡ false) reached count
      → take count reached ≡ filter (λ x. is_eq (side x)) xs
  found_part reached start count same one two =
      ap (take count) same ∙ found start count one (subst (λ (l : List X). IsPartitionPoint (λ x. is_le (side x) ≡ true) (λ x. is_le (side x) ≡ false) l count) same two)

-- tests that agree on a list keep the same of it
pub filter_alike : {X : Type 0} (p q : X → Bool) (xs : List X) → ((k : ℕ) (d : X) → k < length xs → p (get_or xs k d) ≡ q (get_or xs k d)) → filter p xs ≡ filter q xs
filter_alike p q [] h = refl
filter_alike p q (x ∷ xs) h = ap₂ (λ b l. cond b (x ∷ l) l) (h 0 x (omega arith)) (filter_alike p q xs (λ k d lt. h (suc k) d (omega arith)))

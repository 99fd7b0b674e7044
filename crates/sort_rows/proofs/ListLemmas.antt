-- Lists place by place, and mapped ones.
use Rattle.std.proofs.Common.{◌≡◌, ℕ, zero, suc, ◌+◌, ◌*◌, ◌<◌, List, [], ◌∷◌, ◌++◌, length, map, All, drop, get_or, take, refl, sym, ap, ◌∙◌, subst, arith}
use Rattle.std.specs.List.{AllZip, flat_map}
use Rattle.std.proofs.Math.ListN.{get_or-map}
use Rattle.std.proofs.Math.Seq.{drop-append-add, take-append_seam}
use Rattle.std.proofs.lemmas.List.{drop-map, length-map, take-map, take_more}
use Rattle.std.proofs.lemmas.Grind.{flat_map-append}
use Rattle.std.proofs.Common.{append-nil}

pub All-unmap : {X Y : Type 0} (P : Y → Type 0) (f : X → Y) (xs : List X) → All P (map f xs) → All (λ x. P (f x)) xs
All-unmap P f xs all = λ k d lt. subst P (get_or-map f xs k d) (all k (f d) (omega (arith, lt, length-map xs f)))

-- a list of pieces of one length, one after another
module _ {A B : Type 0} (f : A → List B) (w : ℕ) (same : (x : A) → length (f x) ≡ w) where
  piece_first : (x : A) (rest : List B) → take w (f x ++ rest) ≡ f x
  piece_first x rest = ap (λ n. take n (f x ++ rest)) (sym (same x)) ∙ take-append_seam (f x) rest

  piece_later : (x : A) (rest : List B) (n : ℕ) → drop (w + n) (f x ++ rest) ≡ drop n rest
  piece_later x rest n = ap (λ m. drop (m + n) (f x ++ rest)) (sym (same x)) ∙ drop-append-add (f x) rest n

  pub piece_at : (xs : List A) (i : ℕ) (d : A) → i < length xs → take w (drop (i * w) (flat_map f xs)) ≡ f (get_or xs i d)
  piece_at [] i d within = absurd (omega (arith, within))
  piece_at (x ∷ xs) zero d within =
      let none : 0 * w ≡ 0 = omega arith in
      ap (λ n. take w (drop n (f x ++ flat_map f xs))) none ∙ piece_first x (flat_map f xs)
  piece_at (x ∷ xs) (suc i) d within =
      let more : suc i * w ≡ w + i * w = omega arith in
      ap (λ n. take w (drop n (f x ++ flat_map f xs))) more
      ∙ ap (take w) (piece_later x (flat_map f xs) (i * w))
      ∙ piece_at xs i d (omega (arith, within))

pub run-map : {A B : Type 0} (f : A → B) (xs : List A) (w i : ℕ) → map f (take w (drop (i * w) xs)) ≡ take w (drop (i * w) (map f xs))
run-map f xs w i = sym (take-map f w (drop (i * w) xs)) ∙ ap (take w) (sym (drop-map f (i * w) xs))

pub flat_map-more : {A B : Type 0} (f : A → List B) (xs : List A) (i : ℕ) (d : A) → i < length xs → flat_map f (take (i + 1) xs) ≡ flat_map f (take i xs) ++ f (get_or xs i d)
flat_map-more f xs i d within =
    ap (flat_map f) (take_more xs i d within)
    ∙ flat_map-append f (take i xs) (get_or xs i d ∷ [])
    ∙ ap (λ ys. flat_map f (take i xs) ++ ys) (append-nil (f (get_or xs i d)))

-- A list made of a slice, part by part.
use Rattle.std.proofs.Common.{◌≡◌, ℕ, ◌+◌, ◌<◌, ◌≤◌, List, [], ◌∷◌, ◌++◌, length, map, drop, get_or, sym, ap, ◌∙◌, append-nil, append_assoc, drop_of_length-le}
use Rattle.std.proofs.lemmas.List.{drop_more}

module _ {A B : Type 0} (f : A → B) where
  -- one more is put behind
  pub put-more : (old new front : List B) (xs : List A) (i : ℕ) (d : A) → i < length xs → new ≡ old ++ f (get_or xs i d) ∷ [] → old ++ map f (drop i xs) ≡ front ++ map f xs → new ++ map f (drop (i + 1) xs) ≡ front ++ map f xs
  put-more old new front xs i d lt grown so =
      let later = map f (drop (i + 1) xs) in
      ap (λ l. l ++ later) grown ∙ (append_assoc old (f (get_or xs i d) ∷ []) later ∙ (ap (λ l. old ++ map f l) (sym (drop_more xs i d lt)) ∙ so))

  -- all are
  pub put-all : (now front : List B) (xs : List A) (i : ℕ) → length xs ≤ i → now ++ map f (drop i xs) ≡ front ++ map f xs → now ≡ front ++ map f xs
  put-all now front xs i le so = sym (append-nil now) ∙ (ap (λ l. now ++ map f l) (sym (drop_of_length-le xs le)) ∙ so)

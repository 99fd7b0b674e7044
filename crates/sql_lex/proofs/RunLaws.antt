-- How far a run of bytes that pass a test goes.
use Rattle.std.proofs.Common.{◌≡◌, ℕ, suc, ◌+◌, Bool, true, false, cond, List, [], ◌∷◌, ◌++◌, length, take, drop, refl, ap, sym, ◌∙◌, one-add, arith}
use Rattle.std.specs.List.{prefix_len, list_all}
use Rattle.std.proofs.lemmas.Bool.{and_parts}
use Rattle.sql_lex.specs.Letters.{IsNotNext}

-- a text is cut at one place of a given length
pub same_split : (a r b s : List ℕ) → a ++ r ≡ b ++ s → length a ≡ length b → (a ≡ b) × (r ≡ s)
same_split [] r [] s h e = (refl, h)
same_split [] r (y ∷ b) s h e = absurd (omega arith)
same_split (x ∷ a) r [] s h e = absurd (omega arith)
same_split (x ∷ a) r (y ∷ b) s h e =
    let head : x ≡ y = cc in
    let tail : a ++ r ≡ b ++ s = cc in
    let rest = same_split a r b s tail (omega arith) in
    (cc (head, rest.0), rest.1)

module _ (p : ℕ → Bool) where
  passes-step : (x : ℕ) (xs : List ℕ) (b : Bool) → p x ≡ b → list_all p (take (prefix_len p xs) xs) ≡ true → list_all p (take (cond b (1 + prefix_len p xs) 0) (x ∷ xs)) ≡ true
  passes-step x xs true h more = rw (one-add, h) more
  passes-step x xs false h more = refl

  -- the run passes
  pub run_passes : (xs : List ℕ) → list_all p (take (prefix_len p xs) xs) ≡ true
  run_passes [] = refl
  run_passes (x ∷ xs) = passes-step x xs (p x) refl (run_passes xs)

  stops-step : (x : ℕ) (xs : List ℕ) (b : Bool) → p x ≡ b → IsNotNext p (drop (prefix_len p xs) xs) → IsNotNext p (drop (cond b (1 + prefix_len p xs) 0) (x ∷ xs))
  stops-step x xs true h more = rw one-add more
  stops-step x xs false h more = h

  -- what follows the run at the front does not pass
  pub run_stops : (xs : List ℕ) → IsNotNext p (drop (prefix_len p xs) xs)
  run_stops [] = tt
  run_stops (x ∷ xs) = stops-step x xs (p x) refl (run_stops xs)

  -- bytes that all pass, before one that does not, are the run at the front
  pub run_is : (a r : List ℕ) → list_all p a ≡ true → IsNotNext p r → prefix_len p (a ++ r) ≡ length a
  run_is [] [] all next = refl
  run_is [] (x ∷ r) all next = rw next refl
  run_is (x ∷ a) r all next =
      let both = and_parts (p x) (list_all p a) all in
      rw both.0 (rw one-add (ap suc (run_is a r both.1 next)))

  -- a run is cut at one place
  pub same_run : (a r b s : List ℕ) → a ++ r ≡ b ++ s → list_all p a ≡ true → IsNotNext p r → list_all p b ≡ true → IsNotNext p s → (a ≡ b) × (r ≡ s)
  same_run a r b s h all next all' next' =
      same_split a r b s h (sym (run_is a r all next) ∙ (ap (prefix_len p) h ∙ run_is b s all' next'))

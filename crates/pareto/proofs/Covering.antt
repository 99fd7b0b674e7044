-- What is covered after an item is offered.
use Rattle.std.proofs.Common.{◌≡◌, ◌⊎◌, zero, suc, Bool, true, false, not, cond, List, [], ◌∷◌, ◌++◌, refl, inl, inr, sym, ◌∙◌, ap, IsTrue, arith, Result, Ok, Err, OnOk, IfErr}
use Rattle.std.specs.List.{All, AllPairs, Contains, filter}
use Rattle.std.proofs.lemmas.List.Elements.{All-contains, All-filter, All-weaker, All-contains_itself, Contains-push, Contains-push_cases, Contains-append_left, Contains-append_right, filter_passes}
use Rattle.std.proofs.lemmas.List.Kept.{AllPairs-filter}
use Rattle.std.proofs.lemmas.List.Quantifiers.{all_pairs_push}
use Rattle.pareto.specs.work.Front.{IsCovered, AreKeptOr, Unrelated}

Contains-head : {T : Type 0} (y : T) (ys : List T) (x : T) → Contains (y ∷ ys) x → (y ≡ x) ⊎ Contains ys x
Contains-head y ys x (zero, lt, e) = inl e
Contains-head y ys x (suc k, lt, e) = inr (k, omega arith, e)

Contains-cond : {T : Type 0} (b : Bool) (y : T) (fs : List T) (x : T) → Contains fs x → Contains (cond b (y ∷ fs) fs) x
Contains-cond true y fs x h = Contains-append_right (y ∷ []) fs x h
Contains-cond false y fs x h = h

Contains-filter : {T : Type 0} (p : T → Bool) (xs : List T) (x : T) → p x ≡ true → Contains xs x → Contains (filter p xs) x
Contains-filter p [] x e h = absurd (omega (arith, h.1))
Contains-filter p (y ∷ ys) x e h = elim (Contains-head y ys x h) [
  | inl same ↦ rw (ap p same ∙ e) (0, omega arith, same)
  | inr later ↦ Contains-cond (p y) y _ x (Contains-filter p ys x e later)
]

Contains-from_filter : {T : Type 0} (p : T → Bool) (xs : List T) (x : T) → Contains (filter p xs) x → Contains xs x
Contains-from_filter p xs x h = All-contains (Contains xs) _ x (All-filter p (Contains xs) xs (All-contains_itself xs)) h

module _ {T : Type 0} (is_at_most : T → T → Bool) (reflexive : (a : T) → IsTrue (is_at_most a a)) where
  -- each item covers itself
  pub covered-kept : (xs : List T) → All (IsCovered is_at_most xs) xs
  covered-kept xs = All-weaker (Contains xs) (IsCovered is_at_most xs) (λ x h. record { by' = x; is_kept = h; covers = reflexive x }) xs (All-contains_itself xs)

  covered_or : (xs : List T) (t x : T) (b : Bool) → is_at_most t x ≡ b → Contains xs x → IsCovered is_at_most (filter (λ k. not (is_at_most t k)) xs ++ t ∷ []) x
  covered_or xs t x true e h = record { by' = t; is_kept = Contains-push _ t; covers = e }
  covered_or xs t x false e h = record {
    by' = x;
    is_kept = Contains-append_left _ _ x (Contains-filter _ xs x (ap not e) h);
    covers = reflexive x;
  }

  -- the items that go are covered by the new one, and the others cover themselves
  pub covered-offered : (xs : List T) (t : T) → All (IsCovered is_at_most (filter (λ k. not (is_at_most t k)) xs ++ t ∷ [])) xs
  covered-offered xs t = All-weaker (Contains xs) (IsCovered is_at_most _) (λ x h. covered_or xs t x _ refl h) xs (All-contains_itself xs)

  pub offered : (xs : List T) (t : T) → IsCovered is_at_most (filter (λ k. not (is_at_most t k)) xs ++ t ∷ []) t
  offered xs t = record { by' = t; is_kept = Contains-push _ t; covers = reflexive t }

module _ {T : Type 0} (is_at_most : T → T → Bool) where
  not-true : (b : Bool) → not b ≡ true → b ≡ false
  not-true false h = refl
  not-true true h = cc

  -- no kept item covers the new one, and it covers none
  pub unrelated-offered : (xs : List T) (t : T) → All (λ k. is_at_most k t ≡ false) xs → AllPairs (Unrelated is_at_most) xs → AllPairs (Unrelated is_at_most) (filter (λ k. not (is_at_most t k)) xs ++ t ∷ [])
  unrelated-offered xs t none pairs =
      all_pairs_push (Unrelated is_at_most) _ t (AllPairs-filter (Unrelated is_at_most) _ xs pairs)
      (λ k d lt. (All-filter _ (λ x. is_at_most x t ≡ false) xs none k d lt, not-true _ (filter_passes (λ k. not (is_at_most t k)) xs k d lt)))

-- an item that no kept one is at most is not covered
pub not-covered : {T : Type 0} (is_at_most : T → T → Bool) (kept : List T) (t : T) → All (λ k. is_at_most k t ≡ false) kept → IsCovered is_at_most kept t → ⊥
not-covered is_at_most kept t none covered =
    let no = All-contains (λ k. is_at_most k t ≡ false) kept covered.by' none covered.is_kept in
    let yes = covered.covers in
    absurd cc

pub kept-offered : {T : Type 0} (p : T → Bool) (xs : List T) (t : T) → AreKeptOr xs t (filter p xs ++ t ∷ [])
kept-offered p xs t = All-weaker (Contains (filter p xs ++ t ∷ [])) (λ x. Contains xs x ⊎ (x ≡ t)) (λ x h. elim (Contains-push_cases _ t x h) [ inl old ↦ inl (Contains-from_filter p xs x old) | inr same ↦ inr (sym same) ]) _ (All-contains_itself _)

pub kept-same : {T : Type 0} (xs : List T) (t : T) → AreKeptOr xs t xs
kept-same xs t = All-weaker (Contains xs) (λ x. Contains xs x ⊎ (x ≡ t)) (λ x h. inl h) xs (All-contains_itself xs)

-- The clauses of `offer`, from those of `replace_covered`, where the fields are seen as old.
pub covered-on_ok : {T X E : Type 0} (is_at_most : T → T → Bool) → ((a : T) → IsTrue (is_at_most a a)) → (r : Result X E) (old inside new : List T) (t : T) → inside ≡ old →
    OnOk r (new ≡ filter (λ k. not (is_at_most t k)) inside ++ t ∷ []) → OnOk r (All (IsCovered is_at_most new) old)
covered-on_ok is_at_most reflexive (Ok x) old inside new t seen ok = rw (ok, ← seen) (covered-offered is_at_most reflexive inside t)
covered-on_ok is_at_most reflexive (Err x) old inside new t seen ok = tt

pub kept-on_ok : {T X E : Type 0} (p : T → Bool) (r : Result X E) (old inside new : List T) (t : T) → inside ≡ old →
    OnOk r (new ≡ filter p inside ++ t ∷ []) → OnOk r (AreKeptOr old t new)
kept-on_ok p (Ok x) old inside new t seen ok = rw (ok, ← seen) (kept-offered p inside t)
kept-on_ok p (Err x) old inside new t seen ok = tt

pub unrelated-result : {T X : Type 0} (is_at_most : T → T → Bool) (r : Result X T) (old inside new : List T) (t : T) → inside ≡ old →
    All (λ k. is_at_most k t ≡ false) inside → OnOk r (new ≡ filter (λ k. not (is_at_most t k)) inside ++ t ∷ []) →
    IfErr r (λ back. (back ≡ t) × (new ≡ inside)) → AllPairs (Unrelated is_at_most) old → AllPairs (Unrelated is_at_most) new
unrelated-result is_at_most (Ok x) old inside new t seen none ok err pairs =
    rw ok (unrelated-offered is_at_most inside t none (rw seen pairs))
unrelated-result is_at_most (Err x) old inside new t seen none ok err pairs = rw (err.1, seen) pairs

pub offered-on_ok : {T X E : Type 0} (is_at_most : T → T → Bool) → ((a : T) → IsTrue (is_at_most a a)) → (r : Result X E) (inside new : List T) (t : T) →
    OnOk r (new ≡ filter (λ k. not (is_at_most t k)) inside ++ t ∷ []) → OnOk r (IsCovered is_at_most new t)
offered-on_ok is_at_most reflexive (Ok x) inside new t ok = rw ok (offered is_at_most reflexive inside t)
offered-on_ok is_at_most reflexive (Err x) inside new t ok = tt

-- a fact holds where a result is Ok
pub on_ok-of : {X E : Type 0} {P : Type 0} (r : Result X E) → P → OnOk r P
on_ok-of (Ok x) fact = fact
on_ok-of (Err x) fact = tt

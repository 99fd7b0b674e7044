-- Indexes put into an array from the left.
use Rattle.std.proofs.Common.{◌≡◌, ◌<◌, ◌≤◌, ◌+◌, ◌-◌, ℕ, zero, suc, List, [], ◌∷◌, ◌++◌, length, take, set, refl, sym, ap, ◌∙◌, arith, ◌⊎◌, inl, inr}
use Rattle.std.specs.Prelude.{replicate}
use Rattle.std.proofs.lemmas.List.{take-append-le, length-append}
use Rattle.pg_base.specs.declared.limits.TheConstants.{MOST_ATOMS}
use Rattle.pg_base.specs.declared.numbers.IndexNo.{IndexNo}
use Rattle.scan_cover.specs.work.Arms.{IsFilled, in_array}
use Rattle.scan_cover.specs.declared.filling.Arms.{Arms}

module _ (z : IndexNo) where
  take-more : (n m : ℕ) → n ≤ m → take n (replicate m z) ≡ take n (replicate (suc m) z)
  take-more zero m le = refl
  take-more (suc n) zero le = absurd (omega (arith, le))
  take-more (suc n) (suc m) le = ap (λ (xs : List IndexNo). z ∷ xs) (take-more n m (omega (arith, le)))

  -- one more at the first free place
  put : (i : IndexNo) (xs : List IndexNo) (n m : ℕ) → length xs < n → n ≤ m → set (take n (xs ++ replicate m z)) (length xs) i ≡ take n ((xs ++ i ∷ []) ++ replicate m z)
  put i [] zero m lt le = absurd (omega (arith, lt))
  put i [] (suc n) zero lt le = absurd (omega (arith, le))
  put i [] (suc n) (suc m) lt le = ap (λ (xs : List IndexNo). i ∷ xs) (take-more n m (omega (arith, le)))
  put i (x ∷ xs) zero m lt le = absurd (omega (arith, lt))
  put i (x ∷ xs) (suc n) m lt le = ap (λ (ys : List IndexNo). x ∷ ys) (put i xs n m (omega (arith, lt)) (omega (arith, le)))

  take-least : (n m : ℕ) → n ≤ m → take n (replicate m z) ≡ replicate n z
  take-least zero m le = refl
  take-least (suc n) zero le = absurd (omega (arith, le))
  take-least (suc n) (suc m) le = ap (λ (xs : List IndexNo). z ∷ xs) (take-least n m (omega (arith, le)))

  -- what is in an array that has room for it
  all-in : (xs : List IndexNo) (n m : ℕ) → length xs ≤ n → n ≤ m → take n (xs ++ replicate m z) ≡ xs ++ replicate (n - length xs) z
  all-in [] n m le few = let same : n ≡ n - 0 = omega arith in take-least n m few ∙ ap (λ (k : ℕ). replicate k z) same
  all-in (x ∷ xs) zero m le few = absurd (omega (arith, le))
  all-in (x ∷ xs) (suc n) m le few =
      let same : n - length xs ≡ suc n - suc (length xs) = omega arith in
      ap (λ (ys : List IndexNo). x ∷ ys) (all-in xs n m (omega (arith, le)) (omega (arith, few))) ∙ ap (λ (k : ℕ). x ∷ (xs ++ replicate k z)) same

long-push : (found : List IndexNo) (i : IndexNo) → length (found ++ i ∷ []) ≡ length found + 1
long-push found i = length-append found (i ∷ [])

pub filled-more : (a : Arms) (found : List IndexNo) (i : IndexNo) → IsFilled a found → a.count < MOST_ATOMS → IsFilled (record { indexes = set a.indexes a.count i; count = a.count + 1 }) (found ++ i ∷ [])
filled-more a found i h lt = by h.count
  where
    by : (a.count ≡ length found) ⊎ (MOST_ATOMS ≤ a.count) → IsFilled (record { indexes = set a.indexes a.count i; count = a.count + 1 }) (found ++ i ∷ [])
    by (inl same) = record {
      indexes = ap (λ (xs : List IndexNo). set xs a.count i) h.indexes ∙ ap (λ (n : ℕ). set (in_array found) n i) same ∙ put (record { 0 = 0 }) i found MOST_ATOMS MOST_ATOMS (omega (arith, lt, same)) (omega arith);
      count = inl (ap (λ (n : ℕ). n + 1) same ∙ sym (long-push found i));
      few = let long = long-push found i in omega (arith, same, long);
    }
    by (inr past) = absurd (omega (arith, lt, past))

pub filled-past : (a : Arms) (found : List IndexNo) (i : IndexNo) → IsFilled a found → MOST_ATOMS ≤ a.count → IsFilled a (found ++ i ∷ [])
filled-past a found i h le =
    let few = h.few in
    let long = long-push found i in
    let rest : List IndexNo = replicate MOST_ATOMS (record { 0 = 0 }) in
    record {
      indexes = h.indexes ∙ take-append-le {A = IndexNo} MOST_ATOMS found rest (omega (arith, le, few)) ∙ sym (take-append-le {A = IndexNo} MOST_ATOMS (found ++ i ∷ []) rest (omega (arith, le, few, long)) ∙ take-append-le {A = IndexNo} MOST_ATOMS found (i ∷ []) (omega (arith, le, few)));
      count = inr le;
      few = omega (arith, few, long);
    }

-- all of it, where there is room
pub filled-all : (a : Arms) (found : List IndexNo) → IsFilled a found → length found ≤ MOST_ATOMS → a.indexes ≡ found ++ replicate (MOST_ATOMS - length found) (record { 0 = 0 })
filled-all a found h le = h.indexes ∙ all-in (record { 0 = 0 }) found MOST_ATOMS MOST_ATOMS le (omega arith)

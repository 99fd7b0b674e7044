-- Numbers compared by tests.
use Rattle.std.proofs.Common.{◌≡◌, ℕ, ◌<◌, true, nat_lt, arith, ◌&&◌, Bool, false, refl, ◌/◌, ◌%◌, nat_eq, ◌+◌, ◌≤◌, subst, ◌⊎◌, inl, inr, sym}
use Rattle.std.proofs.lemmas.Grind.{common_steps}
use Rattle.std.proofs.lemmas.Bool.Decides.{nat_tests}
use Rattle.std.proofs.lemmas.Bool.{cases_lt, eqb-true, eqb-false, eq-eqb, ne_eqb}

pub below : (a b : ℕ) → a < b → nat_lt a b ≡ true
below a b lt = grind (arith, common_steps)

pub test-below : (n m : ℕ) (b : Bool) → (b ≡ true → n < m) → nat_lt n m && b ≡ b
test-below n m true h = let lt = h refl in grind (arith, common_steps, lt)
test-below n m false h = grind (arith, common_steps)

pub same-place : (k n : ℕ) → k / 64 ≡ n / 64 → nat_eq (k % 64) (n % 64) ≡ nat_eq k n
same-place k n e = grind (arith, nat_tests)

pub other-place : (k n : ℕ) → (k / 64 ≡ n / 64 → ⊥) → nat_eq k n ≡ false
other-place k n ne = grind (arith, nat_tests)

pub below-next : (k n : ℕ) → nat_eq k n ≡ false → nat_lt k (n + 1) ≡ nat_lt k n
below-next k n h = by (nat_lt k n) (nat_lt k (n + 1)) refl refl where
  by : (a b : Bool) → nat_lt k n ≡ a → nat_lt k (n + 1) ≡ b → b ≡ a
  by true true e f = refl
  by false false e f = refl
  by true false e f = absurd (grind (arith, nat_tests, e, f))
  by false true e f = absurd (grind (arith, nat_tests, e, f, h))

-- one number more
pub each-below : (P : ℕ → Type 0) (n : ℕ) → ((k : ℕ) → k < n → P k) → P n → (k : ℕ) → k < n + 1 → P k
each-below P n h here k lt = by (cases_lt k n)
  where
    by : (k < n) ⊎ (n ≤ k) → P k
    by (inl less) = h k less
    by (inr most) = let same : n ≡ k = omega (arith, most, lt) in subst P same here

-- equality of numbers, turned round
pub nat_eq-turned : (m n : ℕ) → nat_eq m n ≡ nat_eq n m
nat_eq-turned m n = by (nat_eq n m) refl
  where
    by : (b : Bool) → nat_eq n m ≡ b → nat_eq m n ≡ b
    by true e = eq-eqb m n (sym (eqb-true n m e))
    by false e = ne_eqb m n (λ same. eqb-false n m e (sym same))

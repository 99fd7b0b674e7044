-- A set has more relations than a part of it.
use Prim.Native.Nat.{suc, zero}
use Rattle.std.proofs.Common.{◌≡◌, ◌≢◌, ◌⊎◌, inl, inr, ◌<◌, ◌≤◌, ℕ, Bool, true, false, cond, nat_eq, refl, sym, ◌∙◌, ap, arith, true≢false}
use Rattle.std.proofs.lemmas.Bool.{eqb-true, eq-eqb, cases_lt}
use Rattle.heap.specs.Tuples.{rank}

step-most : (a b : Bool) → (a ≡ true → b ≡ true) → cond a 1 0 ≤ cond b 1 0
step-most true true h = omega arith
step-most true false h = absurd (true≢false (sym (h refl)))
step-most false b h = omega arith

pub rank-most : (f g : ℕ → Bool) → ((k : ℕ) → f k ≡ true → g k ≡ true) → (n : ℕ) → rank f n ≤ rank g n
unfolding rank
rank-most f g h zero = omega arith
rank-most f g h (suc n) =
    let before = rank-most f g h n in
    let step = step-most (f n) (g n) (h n) in
    omega (arith, before, step)

step-less : (a b : Bool) → a ≡ false → b ≡ true → cond a 1 0 < cond b 1 0
step-less true b e h = absurd (true≢false e)
step-less false true e h = omega arith
step-less false false e h = absurd (true≢false (sym h))

low : (m n : ℕ) → m < suc n → m ≢ n → (m < n) ⊎ (n ≤ m) → m < n
low m n lt apart (inl h) = h
low m n lt apart (inr h) = absurd (apart (omega (arith, lt, h)))

-- one set is a part of another, which has a member below a number that it has not
pub rank-less : (f g : ℕ → Bool) → ((k : ℕ) → f k ≡ true → g k ≡ true) → (m : ℕ) → f m ≡ false → g m ≡ true → (n : ℕ) → m < n → rank f n < rank g n
unfolding rank
rank-less f g h m out in' zero lt = absurd (omega (arith, lt))
rank-less f g h m out in' (suc n) lt = by (λ lower. rank-less f g h m out in' n lower) (nat_eq m n) refl
  where
    by : (m < n → rank f n < rank g n) → (b : Bool) → nat_eq m n ≡ b → rank f (suc n) < rank g (suc n)
    by later true e =
        let same : m ≡ n = eqb-true m n e in
        let before = rank-most f g h n in
        let step = step-less (f n) (g n) (ap f (sym same) ∙ out) (ap g (sym same) ∙ in') in
        omega (arith, before, step)
    by later false e =
        let apart : m ≢ n = λ same. true≢false (sym (eq-eqb m n same) ∙ e) in
        let lower : m < n = low m n lt apart (cases_lt m n) in
        let before = later lower in
        let step = step-most (f n) (g n) (h n) in
        omega (arith, before, step)

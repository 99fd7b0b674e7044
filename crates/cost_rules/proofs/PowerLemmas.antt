-- `log_up` is the least power.
use Rattle.std.proofs.Common.{◌≡◌, ◌<◌, ◌≤◌, ℕ, zero, suc, ◌+◌, ◌*◌, ◌^◌, Bool, true, false, refl, sym, subst, arith, pow_pos, pow-suc, mul-le-mul_right}
use Rattle.std.specs.Prelude.{nat_le}
use Rattle.std.proofs.Common.{inl, inr, ◌⊎◌}
use Rattle.std.proofs.Math.Nat.{pow-le-pow_left}
use Rattle.std.proofs.lemmas.Bool.{cases_lt, leb-true, leb-false}
use Rattle.std.proofs.lemmas.Grind.{common_steps}
use Rattle.cost_rules.specs.Powers.{power_from, log_up}
use Rattle.cost_rules.specs.work.Powers.{IsLeastPower}

more-below : (b n k : ℕ) → ((j : ℕ) → j < k → b ^ j < n) → b ^ k < n → (j : ℕ) → j < k + 1 → b ^ j < n
more-below b n k h e j lt = elim (eq-or-below j k (omega (arith, lt))) [ inl same ↦ subst (λ i. b ^ i < n) (sym same) e | inr less ↦ h j less ]
  where
    eq-or-below : (j k : ℕ) → j ≤ k → (j ≡ k) ⊎ (j < k)
    eq-or-below j k le = elim (cases_lt j k) [ inl less ↦ inr less | inr more ↦ inl (omega (arith, le, more)) ]

least-from : (b n left k : ℕ) → ((j : ℕ) → j < k → b ^ j < n) → n ≤ b ^ (k + left) → IsLeastPower b n (power_from b n left k)
least-from b n zero k h e = record { reached = subst (λ i. n ≤ b ^ i) (let same : k + 0 ≡ k = omega arith in same) e; least = h }
least-from b n (suc left) k h e = by (nat_le n (b ^ k)) refl (λ f. least-from b n left (k + 1) (more-below b n k h f) (subst (λ i. n ≤ b ^ i) (let same : k + suc left ≡ k + 1 + left = omega arith in same) e))
  where
    by : (r : Bool) → nat_le n (b ^ k) ≡ r → (b ^ k < n → IsLeastPower b n (power_from b n left (k + 1))) → IsLeastPower b n (elim r as (λ x. ℕ) [ true ↦ k | false ↦ power_from b n left (k + 1) ])
    by true f later = record { reached = leb-true n (b ^ k) f; least = h }
    by false f later = later (leb-false n (b ^ k) f)

two-more : (x y : ℕ) → 1 ≤ x → x ≤ y → suc x ≤ 2 * y
two-more x y h k = omega (arith, h, k)

below-power : (b n : ℕ) → 2 ≤ b → n ≤ b ^ n
below-power b zero h = omega arith
below-power b (suc n) h = grind (arith, common_steps, below-power b n h, mul-le-mul_right (b ^ n) h, pow_pos, pow-suc)

pub log-least : (b n : ℕ) → 2 ≤ b → IsLeastPower b n (log_up b n)
log-least b n h = least-from b n n 0 (λ j lt. absurd (omega (arith, lt))) (subst (λ i. n ≤ b ^ i) (let same : n ≡ 0 + n = omega arith in same) (below-power b n h))

-- there is one least power
pub least-is-one : (b n k m : ℕ) → IsLeastPower b n k → IsLeastPower b n m → k ≡ m
least-is-one b n k m h l = elim (cases_lt k m) [ inl less ↦ absurd (omega (arith, h.reached, l.least k less)) | inr more ↦ not-above more ]
  where
    not-above : m ≤ k → k ≡ m
    not-above more = elim (cases_lt m k) [ inl less ↦ absurd (omega (arith, l.reached, h.least m less)) | inr same ↦ omega (arith, more, same) ]

pub log-is : (b n k : ℕ) → 2 ≤ b → IsLeastPower b n k → k ≡ log_up b n
log-is b n k h l = least-is-one b n k (log_up b n) l (log-least b n h)

-- 40 doublings reach 10^12
pub few-doublings : (b n k : ℕ) → 2 ≤ b → n ≤ 10 ^ 12 → IsLeastPower b n k → k ≤ 40
few-doublings b n k h few l = elim (cases_lt 40 k) [ inl less ↦ absurd (omega (arith, few, l.least 40 less, pow-le-pow_left h 40)) | inr more ↦ more ]

-- a power that is reached, after none lower reached it
pub least-at : (b n p k : ℕ) → n ≤ p → (p ≡ b ^ k) × (k < p) × ((j : ℕ) → j < k → b ^ j < n) → IsLeastPower b n k
least-at b n p k h i = record { reached = subst (λ x. n ≤ x) i.0 h; least = i.2 }

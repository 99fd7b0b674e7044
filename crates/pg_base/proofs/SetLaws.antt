-- The set operations, bit by bit.
use Rattle.std.proofs.Common.{◌≡◌, ◌⊎◌, ℕ, ◌-◌, ◌*◌, ◌/◌, ◌%◌, ◌^◌, ◌<◌, ◌≤◌, max, min, true, false, not, ◌||◌, ◌&&◌, nat_eq, sym, ◌∙◌, ap, arith, bit_and, bit_or, w16, inl, inr}
use Rattle.std.specs.Int.{bit_at, bit_not, trailing_zeros}
use Rattle.std.proofs.lemmas.Nat.Bits.{bit_at_or, bit_at_and, bit_at_not, bit_at-lt, bit_at_above, bit_at-zero, same_from_bits, bit_at-pow_same, bit_at-pow_other, bit_at-trailing_zeros, shr_and_one}
use Rattle.std.proofs.lemmas.Grind.{common_steps}
use Rattle.std.proofs.lemmas.Bool.{cases_lt, and_parts, and_from, false≢true}
use Rattle.std.proofs.lemmas.Nat.{one_shl, and_le_l}
use Rattle.pg_base.specs.Sets.{has}
use Rattle.pg_base.specs.work.Sets.{Meets}

or_test : (x y : ℕ) → x < 2 → y < 2 → nat_eq (max x y) 1 ≡ nat_eq x 1 || nat_eq y 1
or_test x y p q = grind (arith, common_steps)

and_test : (x y : ℕ) → x < 2 → y < 2 → nat_eq (min x y) 1 ≡ nat_eq x 1 && nat_eq y 1
and_test x y p q = grind (arith, common_steps)

minus_test : (x y : ℕ) → x < 2 → y < 2 → nat_eq (min x (1 - y)) 1 ≡ nat_eq x 1 && not (nat_eq y 1)
minus_test x y p q = grind (arith, common_steps)

pub has-zero : (k : ℕ) → has 0 k ≡ false
unfolding has
has-zero k = ap (λ n. nat_eq n 1) (bit_at-zero k)

pub has-or : (a b k : ℕ) → has (bit_or a b) k ≡ has a k || has b k
unfolding has
has-or a b k = ap (λ n. nat_eq n 1) (bit_at_or a b k) ∙ or_test _ _ (bit_at-lt a k) (bit_at-lt b k)

pub has-and : (a b k : ℕ) → has (bit_and a b) k ≡ has a k && has b k
unfolding has
has-and a b k = ap (λ n. nat_eq n 1) (bit_at_and a b k) ∙ and_test _ _ (bit_at-lt a k) (bit_at-lt b k)

minus_at : (a b k : ℕ) → a < 2 ^ 16 → b < 2 ^ 16 → (k < 16) ⊎ (16 ≤ k) → bit_at (bit_and a (bit_not w16 b)) k ≡ min (bit_at a k) (1 - bit_at b k)
minus_at a b k fa fb where_k = bit_at_and a (bit_not w16 b) k ∙ elim where_k [
  | inl below ↦ ap (min (bit_at a k)) (bit_at_not w16 b k fb below)
  | inr above ↦ rw (bit_at_above a 16 k fa above) (grind arith)
]

pub has-minus : (a b k : ℕ) → a < 2 ^ 16 → b < 2 ^ 16 → has (bit_and a (bit_not w16 b)) k ≡ has a k && not (has b k)
unfolding has
has-minus a b k fa fb = ap (λ n. nat_eq n 1) (minus_at a b k fa fb (cases_lt k 16)) ∙ minus_test _ _ (bit_at-lt a k) (bit_at-lt b k)

pub has-shr : (a r : ℕ) → nat_eq (bit_and (a / 2 ^ r) 1) 1 ≡ has a r
unfolding has
has-shr a r = ap (λ n. nat_eq n 1) (shr_and_one a r)

pub has-above : (a k : ℕ) → a < 2 ^ 16 → 16 ≤ k → has a k ≡ false
unfolding has
has-above a k fit above = ap (λ n. nat_eq n 1) (bit_at_above a 16 k fit above)

-- a number with no bits is 0
zero_bit : (x : ℕ) → x < 2 → nat_eq x 1 ≡ false → x ≡ 0
zero_bit x lt h = grind (arith, common_steps)

pub none-zero : (a : ℕ) → ((k : ℕ) → has a k ≡ false) → a ≡ 0
unfolding has
none-zero a none = same_from_bits a 0 (λ i. zero_bit _ (bit_at-lt a i) (none i) ∙ sym (bit_at-zero i))

pub first-has : (a : ℕ) → 0 < a → a < 2 ^ 16 → has a (trailing_zeros w16 a) ≡ true
unfolding has
first-has a some fit = ap (λ n. nat_eq n 1) (bit_at-trailing_zeros w16 a some fit).1

pub first-least : (a k : ℕ) → 0 < a → a < 2 ^ 16 → k < trailing_zeros w16 a → has a k ≡ false
unfolding has
first-least a k some fit lt = ap (λ n. nat_eq n 1) ((bit_at-trailing_zeros w16 a some fit).2 k lt)

pow_same : (r k : ℕ) → k ≡ r → nat_eq (bit_at (2 ^ r) k) 1 ≡ nat_eq k r
pow_same r k same = rw (same, bit_at-pow_same r) (grind (arith, common_steps))

pow_other : (r k : ℕ) → (k ≡ r → ⊥) → nat_eq (bit_at (2 ^ r) k) 1 ≡ nat_eq k r
pow_other r k other = rw (bit_at-pow_other r k other) (grind (arith, common_steps))

has-pow : (r k : ℕ) → has (2 ^ r) k ≡ nat_eq k r
unfolding has
has-pow r k = elim (cases_lt k r) [
  | inl below ↦ pow_other r k (λ e. omega arith)
  | inr least ↦ elim (cases_lt r k) [ inl above ↦ pow_other r k (λ e. omega arith) | inr most ↦ pow_same r k (omega arith) ]
]

pub has-one_wide : (w r k : ℕ) → r < w → has (1 * 2 ^ r % 2 ^ w) k ≡ nat_eq k r
has-one_wide w r k lt = rw (one_shl r w lt) (has-pow r k)

pub has-one : (r k : ℕ) → r < 16 → has (1 * 2 ^ r % 2 ^ 16) k ≡ nat_eq k r
has-one = has-one_wide 16

pub none-both : (a b k : ℕ) → bit_and a b ≡ 0 → has a k && has b k ≡ false
none-both a b k none = sym (has-and a b k) ∙ ap (λ n. has n k) none ∙ has-zero k

pub both-none : (a b : ℕ) → ((k : ℕ) → has a k && has b k ≡ false) → bit_and a b ≡ 0
both-none a b none = none-zero (bit_and a b) (λ k. has-and a b k ∙ none k)

and-fits : (a b : ℕ) → a < 2 ^ 16 → bit_and a b < 2 ^ 16
and-fits a b fit = omega (arith, and_le_l a b)

-- a member of both: the lowest bit of the common ones
pub meets-some : (a b : ℕ) → a < 2 ^ 16 → 0 < bit_and a b → Meets a b
meets-some a b fit some =
    let k : ℕ = trailing_zeros w16 (bit_and a b) in
    let both = and_parts (has a k) (has b k) (sym (has-and a b k) ∙ first-has (bit_and a b) some (and-fits a b fit)) in
    (k, both.0, both.1)

pub meets-positive : (a b : ℕ) → Meets a b → 0 < bit_and a b
meets-positive a b (k, ha, hb) = elim (cases_lt 0 (bit_and a b)) [
  | inl some ↦ some
  | inr none ↦ absurd (false≢true (sym (none-both a b k (omega arith)) ∙ and_from (has a k) (has b k) ha hb))
]

pub has-below : (a k : ℕ) → a < 2 ^ 16 → has a k ≡ true → k < 16
has-below a k fit is = elim (cases_lt k 16) [
  | inl below ↦ below
  | inr above ↦ absurd (false≢true (sym (has-above a k fit above) ∙ is))
]

same_digit : (x y : ℕ) → x < 2 → y < 2 → nat_eq x 1 ≡ nat_eq y 1 → x ≡ y
same_digit x y p q e = grind (arith, common_steps)

pub same_set : (a b : ℕ) → ((k : ℕ) → has a k ≡ has b k) → a ≡ b
unfolding has
same_set a b same = same_from_bits a b (λ i. same_digit _ _ (bit_at-lt a i) (bit_at-lt b i) (same i))

pub ruleset sets = (none-both, both-none, has-zero, has-or, has-and, has-minus, has-shr, has-above, none-zero, first-has, first-least, has-one)

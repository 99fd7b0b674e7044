-- Sets of relations divided into two.
use Rattle.std.proofs.Common.{◌≡◌, ◌<◌, ◌≤◌, ℕ, ◌-◌, ◌*◌, ◌%◌, ◌^◌, Bool, true, false, not, ◌&&◌, ◌||◌, nat_eq, refl, sym, ◌∙◌, ap, bit_and, w64, arith, true≢false}
use Rattle.std.proofs.lemmas.Bool.{eq-eqb, eqb-true, false≢true}
use Rattle.std.proofs.lemmas.Nat.{and_le_l, pow_pos}
use Rattle.std.proofs.Math.Nat.{pow-le-pow_right}
use Rattle.std.proofs.lemmas.Nat.Bits.{bit_at_ones, bit_at-trailing_zeros}
use Rattle.std.specs.Int.{trailing_zeros}
use Rattle.pg_base.specs.Sets.{has}
use Rattle.pg_base.proofs.SetLaws.{has-and, has-one_wide, has-zero, none-zero, same_set}
use Rattle.pg_base.specs.declared.rel_set.RelSet.{RelSet}
use Rattle.join_search.specs.work.Joins.{IsSingle}
use Rattle.join_search.specs.work.Splits.{IsDivided}
use Rattle.join_search.specs.work.Tables.{set_numbered}

rest-bool : (x a b : Bool) → x ≡ a || b → (a ≡ true → b ≡ false) → b ≡ x && not a
rest-bool true true b e h = h refl
rest-bool false true b e h = h refl
rest-bool true false b e h = sym e
rest-bool false false b e h = sym e

-- the inner side is what the outer one leaves
pub inner-is : (s a b m : RelSet) → IsDivided s a b → ((k : ℕ) → has m.0 k ≡ has s.0 k && not (has a.0 k)) → b.0 ≡ m.0
inner-is s a b m d h = same_set b.0 m.0 (λ k. rest-bool (has s.0 k) (has a.0 k) (has b.0 k) (d.all k) (d.apart k) ∙ sym (h k))

apart-bool : (x a r : Bool) → r ≡ x && not a → a ≡ true → r ≡ false
apart-bool true true r e is = e
apart-bool false true r e is = e
apart-bool x false r e is = absurd (false≢true is)

all-bool : (x a r : Bool) → r ≡ x && not a → (a ≡ true → x ≡ true) → x ≡ a || r
all-bool true true r e h = refl
all-bool false true r e h = absurd (false≢true (h refl))
all-bool true false r e h = sym e
all-bool false false r e h = sym e

whole-bool : (x a r : Bool) → r ≡ x && not a → r ≡ false → (a ≡ true → x ≡ true) → a ≡ x
whole-bool true true r e none h = refl
whole-bool false true r e none h = sym (h refl)
whole-bool true false r e none h = sym none ∙ e
whole-bool false false r e none h = refl

-- a part that is not empty and not all, and the rest
pub divided : (s a b : RelSet) → ((k : ℕ) → has a.0 k ≡ true → has s.0 k ≡ true) → ((k : ℕ) → has b.0 k ≡ has s.0 k && not (has a.0 k)) → 1 ≤ a.0 → a.0 < s.0 → IsDivided s a b
divided s a b within rest some less = record {
  outer = λ none. let zero : a.0 ≡ 0 = none-zero a.0 none in absurd (omega (arith, some, zero));
  inner = λ none. let same : a.0 ≡ s.0 = same_set a.0 s.0 (λ k. whole-bool (has s.0 k) (has a.0 k) (has b.0 k) (rest k) (none k) (within k)) in absurd (omega (arith, less, same));
  apart = λ k is. apart-bool (has s.0 k) (has a.0 k) (has b.0 k) (rest k) is;
  all = λ k. all-bool (has s.0 k) (has a.0 k) (has b.0 k) (rest k) (within k);
}

and-left : (x a b : Bool) → x ≡ a || b → a ≡ x && a
and-left true true b e = refl
and-left true false b e = refl
and-left false true b e = absurd (false≢true e)
and-left false false b e = refl

and-right : (x a b : Bool) → x ≡ a || b → b ≡ x && b
and-right true a true e = refl
and-right true a false e = refl
and-right false true b e = absurd (false≢true e)
and-right false false b e = sym e

within-most : (s a : ℕ) → ((k : ℕ) → has a k ≡ has s k && has a k) → a ≤ s
within-most s a h =
    let same : a ≡ bit_and s a = same_set a (bit_and s a) (λ k. h k ∙ sym (has-and s a k)) in
    omega (arith, same, and_le_l s a)

other-none : (x a b : Bool) → x ≡ a || b → a ≡ x → (a ≡ true → b ≡ false) → b ≡ false
other-none true true b e same h = h refl
other-none false true b e same h = h refl
other-none true false b e same h = absurd (false≢true same)
other-none false false b e same h = sym e

none-other : (x a b : Bool) → x ≡ a || b → b ≡ x → (a ≡ true → b ≡ false) → a ≡ false
none-other x true b e same h = absurd (false≢true (sym (h refl) ∙ same ∙ e))
none-other x false b e same h = refl

-- each side has a smaller number than the whole, and the outer one is not 0
pub outer-less : (s a b : RelSet) → IsDivided s a b → a.0 < s.0
outer-less s a b d = by (within-most s.0 a.0 (λ k. and-left (has s.0 k) (has a.0 k) (has b.0 k) (d.all k)))
  where
    other : a.0 ≡ s.0 → ⊥
    other same = d.inner (λ k. other-none (has s.0 k) (has a.0 k) (has b.0 k) (d.all k) (ap (λ n. has n k) same) (d.apart k))

    by : a.0 ≤ s.0 → a.0 < s.0
    by le = grind (arith, le, other)

pub inner-less : (s a b : RelSet) → IsDivided s a b → b.0 < s.0
inner-less s a b d = by (within-most s.0 b.0 (λ k. and-right (has s.0 k) (has a.0 k) (has b.0 k) (d.all k)))
  where
    other : b.0 ≡ s.0 → ⊥
    other same = d.outer (λ k. none-other (has s.0 k) (has a.0 k) (has b.0 k) (d.all k) (ap (λ n. has n k) same) (d.apart k))

    by : b.0 ≤ s.0 → b.0 < s.0
    by le = grind (arith, le, other)

pub outer-some : (s a b : RelSet) → IsDivided s a b → 1 ≤ a.0
outer-some s a b d = grind (arith, zero)
  where
    zero : a.0 ≡ 0 → ⊥
    zero e = d.outer (λ k. ap (λ n. has n k) e ∙ has-zero k)

part-alone : (b : Bool) (k r : ℕ) (a : ℕ → Bool) → a r ≡ b → nat_eq k r ≡ true → a k ≡ b
part-alone b k r a e same = ap a (eqb-true k r same) ∙ e

-- a set that is divided has more than one relation
pub divided-not-single : (s a b : RelSet) → IsDivided s a b → ¬ IsSingle s
divided-not-single s a b d (r, same) = by (has a.0 r) refl
  where
    outside : (k : ℕ) (x : Bool) → nat_eq k r ≡ x → x ≡ false → has a.0 k || has b.0 k ≡ false
    outside k x e never = sym (d.all k) ∙ same k ∙ e ∙ never

    first-none : (x y : Bool) → x || y ≡ false → x ≡ false
    first-none true y e = e
    first-none false y e = refl

    second-none : (x y : Bool) → x || y ≡ false → y ≡ false
    second-none true y e = absurd (true≢false e)
    second-none false y e = e

    a-at : (k : ℕ) (x : Bool) → nat_eq k r ≡ x → has a.0 r ≡ false → has a.0 k ≡ false
    a-at k true e never = part-alone false k r (has a.0) never e
    a-at k false e never = first-none (has a.0 k) (has b.0 k) (outside k false e refl)

    b-at : (k : ℕ) (x : Bool) → nat_eq k r ≡ x → has b.0 r ≡ false → has b.0 k ≡ false
    b-at k true e never = part-alone false k r (has b.0) never e
    b-at k false e never = second-none (has a.0 k) (has b.0 k) (outside k false e refl)

    by : (x : Bool) → has a.0 r ≡ x → ⊥
    by true e = d.inner (λ k. b-at k (nat_eq k r) refl (d.apart r e))
    by false e = d.outer (λ k. a-at k (nat_eq k r) refl e)

-- a set of one relation has the number of that set
pub single-is : (s : RelSet) (r m : ℕ) → IsSingle s → has s.0 r ≡ true → ((k : ℕ) → has m k ≡ nat_eq k r) → s.0 ≡ m
single-is s r m (t, same) is h =
    let e : r ≡ t = eqb-true r t (sym (same r) ∙ is) in
    same_set s.0 m (λ k. same k ∙ sym (ap (nat_eq k) e) ∙ sym (h k))

pub single-some : (s : RelSet) → IsSingle s → ((k : ℕ) → has s.0 k ≡ false) → ⊥
single-some s (t, same) none = false≢true (sym (none t) ∙ same t ∙ eq-eqb t t refl)

has-ones : (w k : ℕ) → k < w → has (2 ^ w - 1) k ≡ true
unfolding has
has-ones w k lt = ap (λ n. nat_eq n 1) (bit_at_ones w k lt)

ones-bool : (x y : Bool) → (x ≡ true → y ≡ true) → x ≡ y && x
ones-bool true y h = sym (ap (λ b. b && true) (h refl))
ones-bool false true h = refl
ones-bool false false h = refl

some-power : (w : ℕ) → 1 ≤ 2 ^ w
some-power w = omega (arith, pow_pos w)

-- a set of relations below a number is below that power of two
pub set-below : (s w : ℕ) → ((k : ℕ) → has s k ≡ true → k < w) → s < 2 ^ w
set-below s w h =
    let most : s ≤ 2 ^ w - 1 = within-most (2 ^ w - 1) s (λ k. ones-bool (has s k) (has (2 ^ w - 1) k) (λ is. has-ones w k (h k is))) in
    omega (arith, most, some-power w)

pub outer-within : (s a b : RelSet) → IsDivided s a b → (k : ℕ) → has a.0 k ≡ true → has s.0 k ≡ true
outer-within s a b d k is = d.all k ∙ ap (λ x. x || has b.0 k) is

pub sixteen : (w : ℕ) → w ≤ 16 → 2 ^ w ≤ 2 ^ 16
sixteen w le = pow-le-pow_right {n = 2} (omega arith) {i = w} {j = 16} le

-- a set of at most 16 relations is a word of 16 bits
pub few-sets : (w n m : ℕ) → w ≤ 16 → n < m → m ≡ 2 ^ w → n < 2 ^ 16
few-sets w n m le lt e = omega (arith, sixteen w le, lt, e)

first-wide : (n : ℕ) → 0 < n → n < 2 ^ 64 → has n (trailing_zeros w64 n) ≡ true
unfolding has
first-wide n some fit = ap (λ m. nat_eq m 1) (bit_at-trailing_zeros w64 n some fit).1

-- a number is that of a set of one relation exactly where it is the power of two of its lowest bit
pub power-single : (n : ℕ) → 0 < n → n < 2 ^ 64 → (nat_eq n (1 * 2 ^ trailing_zeros w64 n % 2 ^ 64) ≡ true → IsSingle (set_numbered n)) × (IsSingle (set_numbered n) → nat_eq n (1 * 2 ^ trailing_zeros w64 n % 2 ^ 64) ≡ true)
power-single n some fit =
    let k : ℕ = trailing_zeros w64 n in
    let low = (bit_at-trailing_zeros w64 n some fit).0 in
    let m : ℕ = 1 * 2 ^ k % 2 ^ 64 in (
      λ is. (k, λ i. ap (λ x. has x i) (eqb-true n m is) ∙ has-one_wide 64 k i low),
      λ single. eq-eqb n m (single-is (set_numbered n) k m single (first-wide n some fit) (λ i. has-one_wide 64 k i low)),
    )

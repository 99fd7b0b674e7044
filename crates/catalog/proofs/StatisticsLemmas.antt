-- Statistics of which nothing is refused are lawful, and the first places tell of all.
use Rattle.std.proofs.Common.{◌≡◌, ◌≢◌, ◌<◌, ◌≤◌, ◌+◌, ◌-◌, ◌*◌, ◌%◌, ◌&&◌, ◌∙◌, inl, inr, [], ◌∷◌, ℕ, Bool, true, false, nat_eq, nat_le, nat_lt, List, length, take, zero, suc, get_or, refl, sym, ap, subst, arith, cond, min, get_or-take, All}
use Rattle.std.specs.List.{list_any}
use Rattle.std.proofs.lemmas.Bool.{cases_lt, or_parts, and_parts, not-false, leb-false, ltb-false, or_from}
use Rattle.std.proofs.lemmas.Bool.Decides.{nat_tests}
use Rattle.std.proofs.lemmas.List.{get_or_default, length-take, take_all}
use Rattle.std.proofs.lemmas.List.Sums.{sum_by-take-le}
use Rattle.opfamily.specs.pg_value_value_SqlType.{SqlType}
use Rattle.catalog.specs.Statistics.{AreAllowed, AreValuesOf, Common, IsLawfulStatistics, IsValueOf, Statistics, bound_at, bound_number_at, common_at, is_below, is_bound_refused, is_common_refused, is_equal, is_refused, is_share_refused, no_common, pair_of, shares}
use Rattle.catalog.specs.declared.limits.TheConstants.{MOST_BOUNDS, MOST_COMMON, WHOLE_SHARE}

-- the places of a common value, of its share and of a bound
at-value : (s : Statistics) (k : ℕ) → k < length s.common → is_refused s (2 + 2 * k) ≡ is_common_refused s k
at-value s k lt =
    let zeroth : nat_eq (2 + 2 * k) 0 ≡ false = grind (arith, nat_tests) in
    let first : nat_eq (2 + 2 * k) 1 ≡ false = grind (arith, nat_tests) in
    let pair : pair_of (2 + 2 * k) ≡ k = omega arith in
    let even : nat_eq ((2 + 2 * k) % 2) 0 ≡ true = grind (arith, nat_tests) in
    let within : nat_lt (pair_of (2 + 2 * k)) (length s.common) ≡ true = grind (arith, nat_tests) in
    rw (zeroth, first, within, even) (ap (is_common_refused s) pair)

at-share : (s : Statistics) (k : ℕ) → k < length s.common → is_refused s (3 + 2 * k) ≡ is_share_refused s k
at-share s k lt =
    let zeroth : nat_eq (3 + 2 * k) 0 ≡ false = grind (arith, nat_tests) in
    let first : nat_eq (3 + 2 * k) 1 ≡ false = grind (arith, nat_tests) in
    let pair : pair_of (3 + 2 * k) ≡ k = omega arith in
    let odd : nat_eq ((3 + 2 * k) % 2) 0 ≡ false = grind (arith, nat_tests) in
    let within : nat_lt (pair_of (3 + 2 * k)) (length s.common) ≡ true = grind (arith, nat_tests) in
    rw (zeroth, first, within, odd) (ap (is_share_refused s) pair)

at-bound : (s : Statistics) (k place : ℕ) → k < length s.histogram → place ≡ 2 + 2 * length s.common + k → is_refused s place ≡ is_bound_refused s k
at-bound s k place lt is =
    let zeroth : nat_eq place 0 ≡ false = grind (arith, nat_tests) in
    let first : nat_eq place 1 ≡ false = grind (arith, nat_tests) in
    let past : nat_lt (pair_of place) (length s.common) ≡ false = grind (arith, nat_tests) in
    let bound : bound_number_at s place ≡ k = omega (arith, is) in
    let within : nat_lt (bound_number_at s place) (length s.histogram) ≡ true = grind (arith, nat_tests) in
    rw (zeroth, first, past, within) (ap (is_bound_refused s) bound)

positive : (n : ℕ) → nat_lt 0 (n + 1) ≡ true
positive n = grind (arith, nat_tests)

-- a test that fails at all of a list's first elements fails at each
none-of : {X : Type 0} (p : X → Bool) (xs : List X) (n i : ℕ) (d : X) → list_any p (take n xs) ≡ false → i < n → i < length xs → p (get_or xs i d) ≡ false
none-of p xs zero i d e lt within = absurd (omega (arith, lt))
none-of p [] (suc n) i d e lt within = absurd (omega (arith, within))
none-of p (x ∷ xs) (suc n) zero d e lt within = (or_parts _ _ e).0
none-of p (x ∷ xs) (suc n) (suc i) d e lt within = none-of p xs n i d (or_parts (p x) _ e).1 (omega (arith, lt)) (omega (arith, within))

any-by : {X : Type 0} (p : X → Bool) (xs : List X) (n i : ℕ) (d : X) (b : Bool) → list_any p (take n xs) ≡ b → i < n → i < length xs → p (get_or xs i d) ≡ true → b ≡ true
any-by p xs n i d true e lt within h = refl
any-by p xs n i d false e lt within h = sym (none-of p xs n i d e lt within) ∙ h

-- a common value that equals an earlier one
pub found-before : (common : List Common) (k n : ℕ) (a b d : Common) → a ≡ get_or common n d → b ≡ get_or common k b → n < k → k < length common → is_equal a.0 b.0 ≡ true →
    true ≡ list_any (λ (p : Common). is_equal p.0 (get_or common k no_common).0) (take k common)
found-before common k n a b d at bt lt within e =
    let sought = bt ∙ get_or_default common k b no_common within in
    let here = ap (λ (p : Common). is_equal p.0 (get_or common k no_common).0) (sym at) ∙ ap (λ (p : Common). is_equal a.0 p.0) (sym sought) ∙ e in
    sym (any-by (λ (p : Common). is_equal p.0 (get_or common k no_common).0) common k n d _ refl lt (omega (arith, lt, within)) here)

-- two common values are of one type
pub both-typed : (common : List Common) → ((t : SqlType) × All (λ (p : Common). IsValueOf t p.0) common) → (k n : ℕ) (a d : Common) → a ≡ get_or common k a → n < k → k < length common →
    (t : SqlType) × IsValueOf t (get_or common n d).0 × IsValueOf t a.0
both-typed common (t, each) k n a d is lt within =
    (t, each n d (omega (arith, lt, within)), subst (λ (p : Common). IsValueOf t p.0) (sym is) (each k a within))

-- one more place that is not refused
pub clean-more : (s : Statistics) (place : ℕ) → ((n : ℕ) → n < place → is_refused s n ≡ false) → is_refused s place ≡ false → (n : ℕ) → n < place + 1 → is_refused s n ≡ false
clean-more s place clean here n lt = elim (cases_lt n place) [
  | inl less ↦ clean n less
  | inr le ↦ let same : n ≡ place = omega (arith, le, lt) in ap (is_refused s) same ∙ here
]

-- what follows where no place below some number is refused
module _ (s : Statistics) (most : ℕ) (clean : (n : ℕ) → n < most → is_refused s n ≡ false) (far : 140 ≤ most) where
  value-parts : (k : ℕ) → k < length s.common → k < 17 → (k < MOST_COMMON) × (k < s.distinct) × (list_any (λ (p : Common). is_equal p.0 (common_at s k).0) (take k s.common) ≡ false)
  value-parts k lt small =
      let e = or_parts _ _ (sym (at-value s k lt) ∙ clean (2 + 2 * k) (omega (arith, small, far))) in
      let f = or_parts (nat_le s.distinct k) _ e.1 in
      (leb-false _ _ e.0, leb-false _ _ f.0, f.1)

  pub few-values : length s.common ≤ MOST_COMMON
  few-values = elim (cases_lt MOST_COMMON (length s.common)) [
    | inl lt ↦ let p = value-parts MOST_COMMON lt (omega arith) in absurd (omega (arith, p.0))
    | inr le ↦ le
  ]

  bound-parts : (k : ℕ) → k < length s.histogram → k < 102 → (k < MOST_BOUNDS) × (nat_eq (length s.histogram) 1 ≡ false) × (nat_lt 0 k && is_below (bound_at s k) (bound_at s (k - 1)) ≡ false)
  bound-parts k lt small =
      let few = few-values in
      let e = or_parts _ _ (sym (at-bound s k (2 + 2 * length s.common + k) lt refl) ∙ clean (2 + 2 * length s.common + k) (omega (arith, small, far, few))) in
      let f = or_parts (nat_eq (length s.histogram) 1) _ e.1 in
      (leb-false _ _ e.0, f.0, f.1)

  pub few-bounds : length s.histogram ≤ MOST_BOUNDS
  few-bounds = elim (cases_lt MOST_BOUNDS (length s.histogram)) [
    | inl lt ↦ let p = bound-parts MOST_BOUNDS lt (omega arith) in absurd (omega (arith, p.0))
    | inr le ↦ le
  ]

  past-end : (n : ℕ) → 255 ≤ n → is_refused s n ≡ false
  past-end n le =
      let few = few-values in
      let some = few-bounds in
      let zeroth : nat_eq n 0 ≡ false = grind (arith, nat_tests) in
      let first : nat_eq n 1 ≡ false = grind (arith, nat_tests) in
      let past : nat_lt (pair_of n) (length s.common) ≡ false = grind (arith, nat_tests) in
      let end : nat_lt (bound_number_at s n) (length s.histogram) ≡ false = grind (arith, nat_tests) in
      rw (zeroth, first, past, end) refl

-- where the places below 255 are not refused, none is
pub all-allowed : (s : Statistics) → ((n : ℕ) → n < 255 → is_refused s n ≡ false) → AreAllowed s
all-allowed s clean n = elim (cases_lt n 255) [ inl lt ↦ clean n lt | inr ge ↦ past-end s 255 clean (omega arith) n ge ]

module _ (t : SqlType) (s : Statistics) (values : AreValuesOf t s) (clean : AreAllowed s) where
  near : (n : ℕ) → n < 255 → is_refused s n ≡ false
  near n lt = clean n

  share-parts : (k : ℕ) → k < length s.common → (nat_eq (common_at s k).1 0 ≡ false) × (nat_lt WHOLE_SHARE (s.nulls + shares (take (k + 1) s.common)) ≡ false)
  share-parts k lt = or_parts _ _ (sym (at-share s k lt) ∙ clean (3 + 2 * k))

  whole-by : (common : List Common) → common ≡ s.common → s.nulls + shares common ≤ WHOLE_SHARE
  whole-by [] e = let none = ltb-false WHOLE_SHARE s.nulls (clean 1) in omega (arith, none)
  whole-by (p ∷ ps) e =
      let len = ap length e in
      let h = share-parts (length ps) (omega (arith, len)) in
      let all : take (length ps + 1) s.common ≡ s.common = take_all (length ps + 1) s.common (omega (arith, len)) in
      let sum = ap shares (all ∙ sym e) in
      let most = ltb-false _ _ h.1 in
      omega (arith, sum, most)

  -- allowed statistics are lawful
  pub allowed-lawful : IsLawfulStatistics t s
  allowed-lawful =
      let count = and_parts (nat_le 1 s.distinct) _ (not-false _ (clean 0)) in
      let few = few-values s 255 near (omega arith) in
      let some = few-bounds s 255 near (omega arith) in
      record {
        some = grind (arith, nat_tests);
        most = grind (arith, nat_tests);
        few = few;
        within = elim (cases_lt s.distinct (length s.common)) [
          | inl lt ↦ let p = value-parts s 255 near (omega arith) s.distinct lt (omega (arith, few, lt)) in absurd (omega (arith, p.1))
          | inr le ↦ le
        ];
        different = λ i j d lt within.
            let p = value-parts s 255 near (omega arith) j within (omega (arith, few, within)) in
            let e = none-of (λ (q : Common). is_equal q.0 (common_at s j).0) s.common j i d p.2 lt (omega (arith, lt, within)) in
            ap (λ (q : Common). is_equal (get_or s.common i d).0 q.0) (get_or_default s.common j d no_common within) ∙ e;
        shared = λ i d lt.
            let h = share-parts i lt in
            let at = ap (λ (q : Common). q.1) (get_or_default s.common i d no_common lt) in
            let some : (common_at s i).1 ≢ 0 = grind (arith, nat_tests) in
            omega (arith, at, some);
        whole = whole-by s.common refl;
        bounds = some;
        two = λ one.
            let p = bound-parts s 255 near (omega arith) 0 (omega (arith, one)) (omega arith) in
            let both : nat_eq (length s.histogram) 1 ≡ true = grind (arith, nat_tests) in
            let same : true ≡ false = sym both ∙ p.1 in
            absurd (cc);
        rising = λ n lt.
            let p = bound-parts s 255 near (omega arith) (n + 1) lt (omega (arith, some, lt)) in
            let past = positive n in
            let back : n + 1 - 1 ≡ n = omega arith in
            ap (λ m. is_below (bound_at s (n + 1)) (bound_at s m)) (sym back) ∙ (rw past at p.2);
        values = values;
      }

-- with the NULLs, the first shares are at most the whole
pub prefix-whole : (t : SqlType) (s : Statistics) → IsLawfulStatistics t s → (k : ℕ) → s.nulls + shares (take k s.common) ≤ WHOLE_SHARE
prefix-whole t s h k = let part = sum_by-take-le (λ (p : Common). p.1) s.common k in omega (arith, part, h.whole)

cond_false : (b c d : Bool) → (b ≡ true → c ≡ false) → (b ≡ false → d ≡ false) → cond b c d ≡ false
cond_false true c d h g = h refl
cond_false false c d h g = g refl

and_fails : (a b : Bool) → (a ≡ true → b ≡ false) → a && b ≡ false
and_fails true b h = h refl
and_fails false b h = refl

-- a test that fails at each element of a list fails at all
any-none : {X : Type 0} (p : X → Bool) (xs : List X) → ((i : ℕ) (d : X) → i < length xs → p (get_or xs i d) ≡ false) → list_any p xs ≡ false
any-none p [] h = refl
any-none p (x ∷ xs) h = or_from (p x) _ (h 0 x (omega arith)) (any-none p xs (λ i d lt. h (suc i) d (omega (arith, lt))))

-- lawful statistics are allowed
module _ (t : SqlType) (s : Statistics) (h : IsLawfulStatistics t s) where
  value-allowed : (k : ℕ) → k < length s.common → is_common_refused s k ≡ false
  value-allowed k lt =
      let few = h.few in
      let within = h.within in
      or_from (nat_le MOST_COMMON k) _ (grind (arith, nat_tests))
      (or_from (nat_le s.distinct k) _ (grind (arith, nat_tests))
      (any-none (λ (p : Common). is_equal p.0 (common_at s k).0) (take k s.common) (λ i d low.
      let less : i < min k (length s.common) = rw length-take at low in
      ap (λ (p : Common). is_equal p.0 (common_at s k).0) (get_or-take k s.common i d (omega (arith, less)))
      ∙ ap (λ (p : Common). is_equal (get_or s.common i d).0 p.0) (get_or_default s.common k no_common d lt)
      ∙ h.different i k d (omega (arith, less)) lt)))

  share-allowed : (k : ℕ) → k < length s.common → is_share_refused s k ≡ false
  share-allowed k lt =
      let some = h.shared k no_common lt in
      let most = prefix-whole t s h (k + 1) in
      or_from (nat_eq (common_at s k).1 0) _ (grind (arith, nat_tests)) (grind (arith, nat_tests))

  bound-allowed : (k : ℕ) → k < length s.histogram → is_bound_refused s k ≡ false
  bound-allowed k lt =
      let most = h.bounds in
      let two = h.two in
      or_from (nat_le MOST_BOUNDS k) _ (grind (arith, nat_tests))
      (or_from (nat_eq (length s.histogram) 1) _ (grind (arith, nat_tests))
      (and_fails (nat_lt 0 k) _ (λ e.
      let some : 0 < k = grind (arith, nat_tests) in
      let back : k - 1 + 1 ≡ k = omega (arith, some) in
      ap (λ n. is_below (bound_at s n) (bound_at s (k - 1))) (sym back) ∙ h.rising (k - 1) (omega (arith, some, lt)))))

  pub lawful-allowed : AreAllowed s
  lawful-allowed place =
      let some = h.some in
      let most = h.most in
      let whole = h.whole in
      cond_false (nat_eq place 0) _ _ (λ e. grind (arith, nat_tests)) (λ zeroth.
      cond_false (nat_eq place 1) _ _ (λ e. grind (arith, nat_tests)) (λ first.
      cond_false (nat_lt (pair_of place) (length s.common)) _ _
      (λ e.
      let lt : pair_of place < length s.common = grind (arith, nat_tests) in
      cond_false (nat_eq (place % 2) 0) _ _ (λ even. value-allowed (pair_of place) lt) (λ odd. share-allowed (pair_of place) lt))
      (λ e. and_fails (nat_lt (bound_number_at s place) (length s.histogram)) _ (λ f.
      let lt : bound_number_at s place < length s.histogram = grind (arith, nat_tests) in
      bound-allowed (bound_number_at s place) lt))))

-- The place of a literal between the bounds of a histogram: it is within the whole, and the whole is something.
use Rattle.std.proofs.Common.{◌≡◌, ◌≢◌, ◌<◌, ◌≤◌, ◌∙◌, ℕ, zero, suc, ◌+◌, ◌-◌, ◌*◌, ◌/◌, Bool, true, false, cond, nat_eq, nat_lt, true≢false, List, [], ◌∷◌, length, slice_index_or, refl, sym, ap, subst, arith, add-mul, mul-le-mul_left, mul-le-mul_right, not, Ordering, Less, Equal, Greater}
use Rattle.std.specs.Prelude.{ℤ, int_lt}
use Rattle.std.specs.List.{count_by}
use Rattle.std.specs.Ordering.{is_lt, is_le, ordering_reverse}
use Rattle.std.specs.Cmp.{IsTotalOrder}
use Rattle.std.proofs.lemmas.Grind.{common_steps}
use Rattle.std.proofs.lemmas.Int.{ints}
use Rattle.std.proofs.lemmas.Bool.Decides.{nat_tests}
use Rattle.std.proofs.lemmas.List.{get_or_default}
use Rattle.std.proofs.lemmas.List.Sums.{count_by-le-length}
use Rattle.cost_rules.proofs.RisingLemmas.{ceil-least}
use Rattle.pg_value.specs.declared.operators.Op.{Op}
use Rattle.pg_value.specs.declared.operators.Op.TheVariants.{Lt, Le, Eq, Ge, Gt, Ne, AbsLt, AbsLe, AbsEq, AbsGe, AbsGt}
use Rattle.pg_value.specs.declared.operators.Family.{Family}
use Rattle.pg_value.specs.declared.operators.Family.TheVariants.{IntAbs}
use Rattle.pg_value.specs.declared.value.SqlType.{SqlType}
use Rattle.pg_value.specs.declared.value.Value.{Value}
use Rattle.pg_value.specs.declared.value.Value.TheVariants.{Null, Int, Bool as Flag, Text as String}
use Rattle.pg_value.specs.Order.{value_order}
use Rattle.pg_value.specs.Truths.{accepts, comparing_family, is_absolute, is_true, kind_family, truth_of}
use Rattle.pg_value.proofs.OrderLaws.{value_total}
use Rattle.pg_expr.specs.Typed.{some_value}
use Rattle.pg_expr.proofs.DefinedLaws.{IsLike, like_type}
use Rattle.catalog.specs.Statistics.{IsLawfulStatistics, IsValueOf, Statistics, bound_at, is_below}
use Rattle.path_cost.specs.Selectivity.{apart, bounds_passed, count_holding, comparison_holds, met_of, passing, place, part_below_literal, histogram_step, twice_up}

pub quotient-most : (n m d : ℕ) → 1 ≤ d → n ≤ m * d → n / d ≤ m
quotient-most n m d some h = omega (arith, ceil-least n m d some h)

pub part_fits : (share parts whole : ℕ) → parts ≤ whole → 1 ≤ whole → share * parts / whole ≤ share
part_fits share parts whole within some = quotient-most (share * parts) share whole some (mul-le-mul_left share within)

module _ {X : Type 0} (test : X → Bool) (d : X) where
  starts : (t : Bool) (n : ℕ) → t ≡ false → t ≡ nat_lt 0 n → n ≡ 0
  starts t n e f = grind (arith, nat_tests, common_steps, e, f)

  none-hold : (xs : List X) → (0 < length xs → test (slice_index_or xs 0 d) ≡ false) → ((n : ℕ) → n < length xs → test (slice_index_or xs n d) ≡ nat_lt n (count_by test xs)) → count_by test xs ≡ 0
  none-hold [] first each = refl
  none-hold (x ∷ xs) first each = starts (test x) (count_by test (x ∷ xs)) (first (omega arith)) (each 0 (omega arith))

  one-more : (x : X) (xs : List X) → test x ≡ true → count_by test (x ∷ xs) ≡ 1 + count_by test xs
  one-more x xs e = grind (arith, common_steps, e)

  as-many : (x : X) (xs : List X) → test x ≡ false → count_by test (x ∷ xs) ≡ count_by test xs
  as-many x xs e = grind (arith, common_steps, e)

  after-none : (t : Bool) (n m k : ℕ) → t ≡ nat_lt n m → m ≡ 0 → k ≡ 0 → t ≡ nat_lt (suc n) k
  after-none t n m k e f g = grind (arith, nat_tests, common_steps, e, f, g)

  after-one : (t : Bool) (n m k : ℕ) → t ≡ nat_lt n m → k ≡ 1 + m → t ≡ nat_lt (suc n) k
  after-one t n m k e f = grind (arith, nat_tests, common_steps, e, f)

  first-one : (t : Bool) (k m : ℕ) → t ≡ true → k ≡ 1 + m → t ≡ nat_lt 0 k
  first-one t k m e f = grind (arith, nat_tests, common_steps, e, f)

  first-none : (t : Bool) (k : ℕ) → t ≡ false → k ≡ 0 → t ≡ nat_lt 0 k
  first-none t k e f = grind (arith, nat_tests, common_steps, e, f)

  split : (x : X) (xs : List X) → ((n : ℕ) → suc n < length (x ∷ xs) → test (slice_index_or (x ∷ xs) (suc n) d) ≡ true → test (slice_index_or (x ∷ xs) n d) ≡ true) →
      ((n : ℕ) → n < length xs → test (slice_index_or xs n d) ≡ nat_lt n (count_by test xs)) → (n : ℕ) → n < length (x ∷ xs) → test (slice_index_or (x ∷ xs) n d) ≡ nat_lt n (count_by test (x ∷ xs))
  split x xs down later n h = by (test x) refl n h
    where
      next-not : test x ≡ false → 0 < length xs → (b : Bool) → test (slice_index_or xs 0 d) ≡ b → b ≡ false
      next-not bad some true e = absurd (true≢false (sym (down 0 (omega (arith, some)) e) ∙ bad))
      next-not bad some false e = refl

      none : test x ≡ false → count_by test xs ≡ 0
      none bad = none-hold xs (λ some. next-not bad some (test (slice_index_or xs 0 d)) refl) later

      by : (b : Bool) → test x ≡ b → (m : ℕ) → m < length (x ∷ xs) → test (slice_index_or (x ∷ xs) m d) ≡ nat_lt m (count_by test (x ∷ xs))
      by true e zero lt = first-one (test x) (count_by test (x ∷ xs)) (count_by test xs) e (one-more x xs e)
      by true e (suc m) lt = after-one (test (slice_index_or xs m d)) m (count_by test xs) (count_by test (x ∷ xs)) (later m (omega (arith, lt))) (one-more x xs e)
      by false e zero lt = first-none (test x) (count_by test (x ∷ xs)) e (as-many x xs e ∙ none e)
      by false e (suc m) lt = after-none (test (slice_index_or xs m d)) m (count_by test xs) (count_by test (x ∷ xs)) (later m (omega (arith, lt))) (none e) (as-many x xs e ∙ none e)

  -- a test that holds of an item where it holds of the next one holds of the first items, as many as it counts
  pub counted : (xs : List X) → ((n : ℕ) → suc n < length xs → test (slice_index_or xs (suc n) d) ≡ true → test (slice_index_or xs n d) ≡ true) → (n : ℕ) → n < length xs → test (slice_index_or xs n d) ≡ nat_lt n (count_by test xs)
  counted [] down n h = absurd (omega (arith, h))
  counted (x ∷ xs) down n h = split x xs down (counted xs (λ m lt e. down (suc m) (omega (arith, lt)) e)) n h

-- in a total order what is below a number, or not above it, is so too where it is no more than something that is
module _ {X : Type 0} (order : X → X → Ordering) (total : IsTotalOrder order) where
  twice : (o : Ordering) → ordering_reverse (ordering_reverse o) ≡ o
  twice Less = refl
  twice Equal = refl
  twice Greater = refl

  -- from not y below x, and y as the test wants it at v
  passes : (accept : Ordering → Bool) → accept Less ≡ true → accept Greater ≡ false → (x y v : X) → is_lt (order y x) ≡ false → accept (order y v) ≡ true → accept (order x v) ≡ true
  passes accept less greater x y v above holding = by (order x y) refl
    where
      back : order y x ≡ ordering_reverse (order x y)
      back = total.antisymm y x

      below : order x y ≡ Less → (o : Ordering) → order y v ≡ o → order x v ≡ Less
      below e Less f = total.trans x y v e f
      below e Equal f = total.antisymm x v ∙ ap ordering_reverse (sym (total.congr y v x f)) ∙ ap ordering_reverse back ∙ twice (order x y) ∙ e
      below e Greater f = absurd (true≢false (sym holding ∙ ap accept f ∙ greater))

      by : (o : Ordering) → order x y ≡ o → accept (order x v) ≡ true
      by Less e = ap accept (below e (order y v) refl) ∙ less
      by Equal e = ap accept (total.congr x y v e) ∙ holding
      by Greater e = absurd (true≢false (sym (ap (λ o. is_lt (ordering_reverse o)) e) ∙ sym (ap is_lt back) ∙ above))

-- values of a type that are not NULL are of one kind
kind-like : (s a : Value) → a ≢ Null → IsLike s a → kind_family a ≡ kind_family s
kind-like s Null h l = absurd (h refl)
kind-like (Int x) (Int y) h l = refl
kind-like (Flag x) (Flag y) h l = refl
kind-like (String x) (String y) h l = refl
kind-like s v h l = absurd l

kind-same : (t : SqlType) (a b : Value) → IsValueOf t a → IsValueOf t b → kind_family a ≡ kind_family b
kind-same t a b h k = kind-like (some_value t) a h.0 (like_type t a h.1) ∙ sym (kind-like (some_value t) b k.0 (like_type t b k.1))

test-null : (op : Op) (b : Value) → comparison_holds op b Null ≡ false
test-null op Null = refl
test-null op (Int x) = refl
test-null op (Flag x) = refl
test-null op (String x) = refl

test-known : (op : Op) (b v : Value) → b ≢ Null → v ≢ Null → comparison_holds op b v ≡ is_true (truth_of (accepts op (value_order (comparing_family op b) b v)))
test-known op Null v h k = absurd (h refl)
test-known op (Int x) Null h k = absurd (k refl)
test-known op (Int x) (Int y) h k = refl
test-known op (Int x) (Flag y) h k = refl
test-known op (Int x) (String y) h k = refl
test-known op (Flag x) Null h k = absurd (k refl)
test-known op (Flag x) (Int y) h k = refl
test-known op (Flag x) (Flag y) h k = refl
test-known op (Flag x) (String y) h k = refl
test-known op (String x) Null h k = absurd (k refl)
test-known op (String x) (Int y) h k = refl
test-known op (String x) (Flag y) h k = refl
test-known op (String x) (String y) h k = refl

-- what a comparison comes to by the order of its sides
abbrev accepted : Op → Ordering → Bool
accepted op o = is_true (truth_of (accepts op o))

-- where a bound is passed, one that is no greater is passed too
module _ (op : Op) (plain : is_absolute op ≡ false) (less : accepted op Less ≡ true) (greater : accepted op Greater ≡ false) (t : SqlType) where
  compared-by : (x y : Value) → kind_family x ≡ kind_family y → comparing_family op x ≡ kind_family y
  compared-by x y e = ap (λ b. cond b IntAbs (kind_family x)) plain ∙ e

  known-down : (x y v : Value) → IsValueOf t x → IsValueOf t y → v ≢ Null → is_below y x ≡ false → comparison_holds op y v ≡ true → comparison_holds op x v ≡ true
  known-down x y v h k some rising holding =
      test-known op x v h.0 some ∙ ap (λ (f : Family). accepted op (value_order f x v)) (compared-by x y (kind-same t x y h k))
      ∙ passes (value_order (kind_family y)) (value_total (kind_family y)) (accepted op) less greater x y v rising
      (sym (ap (λ (f : Family). accepted op (value_order f y v)) (compared-by y y refl)) ∙ sym (test-known op y v k.0 some) ∙ holding)

  down : (x y v : Value) → IsValueOf t x → IsValueOf t y → is_below y x ≡ false → comparison_holds op y v ≡ true → comparison_holds op x v ≡ true
  down x y Null h k rising holding = absurd (true≢false (sym holding ∙ test-null op y))
  down x y (Int n) h k rising holding = known-down x y (Int n) h k (λ (e : Int n ≡ Null). cc) rising holding
  down x y (Flag b) h k rising holding = known-down x y (Flag b) h k (λ (e : Flag b ≡ Null). cc) rising holding
  down x y (String s) h k rising holding = known-down x y (String s) h k (λ (e : String s ≡ Null). cc) rising holding

  -- the first bounds of a lawful histogram are passed, as many as are counted
  passed-first : (s : Statistics) → IsLawfulStatistics t s → (v : Value) (n : ℕ) → n < length s.histogram → comparison_holds op (bound_at s n) v ≡ nat_lt n (count_holding op s.histogram v)
  passed-first s h v = counted (λ b. comparison_holds op b v) Null s.histogram
      (λ n lt. down (bound_at s n) (bound_at s (suc n)) v (h.values.histogram n Null (omega (arith, lt))) (h.values.histogram (suc n) Null lt)
      (subst (λ m. is_below (bound_at s m) (bound_at s n) ≡ false) (let same : n + 1 ≡ suc n = omega arith in same) (h.rising n (omega (arith, lt)))))

passed : (op : Op) (t : SqlType) (s : Statistics) → IsLawfulStatistics t s → (v : Value) (n : ℕ) → n < length s.histogram → comparison_holds (passing op) (bound_at s n) v ≡ nat_lt n (bounds_passed op s.histogram v)
passed Lt t s h = passed-first Lt refl refl refl t s h
passed Ge t s h = passed-first Lt refl refl refl t s h
passed Le t s h = passed-first Le refl refl refl t s h
passed Eq t s h = passed-first Le refl refl refl t s h
passed Gt t s h = passed-first Le refl refl refl t s h
passed Ne t s h = passed-first Le refl refl refl t s h
passed AbsLt t s h = passed-first Le refl refl refl t s h
passed AbsLe t s h = passed-first Le refl refl refl t s h
passed AbsEq t s h = passed-first Le refl refl refl t s h
passed AbsGe t s h = passed-first Le refl refl refl t s h
passed AbsGt t s h = passed-first Le refl refl refl t s h

-- a bound is passed exactly where its place is before those that are counted
pub half-way : (t : SqlType) (s : Statistics) → IsLawfulStatistics t s → (op below : Op) (v : Value) (n : ℕ) (d : Value) (is : Bool) → below ≡ passing op → n < length s.histogram →
    is ≡ comparison_holds below (slice_index_or s.histogram n d) v → is ≡ nat_lt n (bounds_passed op s.histogram v)
half-way t s h op below v n d is e within f =
    f ∙ ap (λ o. comparison_holds o (slice_index_or s.histogram n d) v) e ∙ ap (λ b. comparison_holds (passing op) b v) (get_or_default s.histogram n d Null within) ∙ passed op t s h v n within

pub few-passed : (op : Op) (histogram : List Value) (v : Value) → bounds_passed op histogram v ≤ length histogram
few-passed op histogram v = count_by-le-length _ histogram

lt-is : (x y : Bool) → is_true (truth_of (is_lt (cond x Less (cond y Greater Equal)))) ≡ x
lt-is true y = refl
lt-is false true = refl
lt-is false false = refl

-- a comparison by `<=` is False exactly where the sides are the other way round; the first may hold only where the second does not
le-is : (x y : Bool) → (x ≡ true → y ≡ false) → is_true (truth_of (is_le (cond x Less (cond y Greater Equal)))) ≡ not y
le-is true y h = sym (ap not (h refl))
le-is false true h = refl
le-is false false h = refl

one-way : (a b : ℤ) → int_lt a b ≡ true → int_lt b a ≡ false
one-way a b h = by (int_lt b a) refl
  where
    by : (t : Bool) → int_lt b a ≡ t → t ≡ false
    by true e = absurd (omega (arith, ints, h, e))
    by false e = refl

lt-step : (a b v : ℤ) → int_lt a v ≡ true → int_lt b v ≡ false → (2 * apart a v - 1 ≤ 2 * apart a b) × (1 ≤ apart a b)
lt-step a b v h k = (omega (arith, ints, h, k), omega (arith, ints, h, k))

le-step : (a b v : ℤ) → int_lt v a ≡ false → int_lt v b ≡ true → (2 * apart a v + 1 ≤ 2 * apart a b) × (1 ≤ apart a b)
le-step a b v h k = (omega (arith, ints, h, k), omega (arith, ints, h, k))

below-step : (a b v : ℤ) → comparison_holds Lt (Int a) (Int v) ≡ true → comparison_holds Lt (Int b) (Int v) ≡ false → (2 * apart a v - 1 ≤ 2 * apart a b) × (1 ≤ apart a b)
below-step a b v h k = lt-step a b v (sym (lt-is (int_lt a v) (int_lt v a)) ∙ h) (sym (lt-is (int_lt b v) (int_lt v b)) ∙ k)

not-back : (b c : Bool) → not b ≡ not c → b ≡ c
not-back true true e = refl
not-back true false e = cc
not-back false true e = cc
not-back false false e = refl

above-step : (a b v : ℤ) → comparison_holds Le (Int a) (Int v) ≡ true → comparison_holds Le (Int b) (Int v) ≡ false → (2 * apart a v + 1 ≤ 2 * apart a b) × (1 ≤ apart a b)
above-step a b v h k = le-step a b v
    (not-back (int_lt v a) false (sym (le-is (int_lt a v) (int_lt v a) (one-way a v)) ∙ h))
    (not-back (int_lt v b) true (sym (le-is (int_lt b v) (int_lt v b) (one-way b v)) ∙ k))

-- a literal between two bounds is in the step between them
int-step : (op : Op) (a b v : ℤ) → comparison_holds (passing op) (Int a) (Int v) ≡ true → comparison_holds (passing op) (Int b) (Int v) ≡ false → (twice_up op (apart a v) ≤ 2 * apart a b) × (1 ≤ apart a b)
int-step Lt a b v h k = below-step a b v h k
int-step Ge a b v h k = below-step a b v h k
int-step Le a b v h k = above-step a b v h k
int-step Eq a b v h k = above-step a b v h k
int-step Gt a b v h k = above-step a b v h k
int-step Ne a b v h k = above-step a b v h k
int-step AbsLt a b v h k = above-step a b v h k
int-step AbsLe a b v h k = above-step a b v h k
int-step AbsEq a b v h k = above-step a b v h k
int-step AbsGe a b v h k = above-step a b v h k
int-step AbsGt a b v h k = above-step a b v h k

abbrev IsStep : ℕ × ℕ → Type 0
IsStep w = (w.1 ≤ 2 * w.0) × (1 ≤ w.0)

half-step : IsStep (1, 1)
half-step = (omega arith, omega arith)

step-fits : (op : Op) (a b v : Value) → comparison_holds (passing op) a v ≡ true → comparison_holds (passing op) b v ≡ false → IsStep (histogram_step op a b v)
step-fits op (Int a) (Int b) (Int v) h k = int-step op a b v h k
step-fits op (Int a) (Int b) Null h k = half-step
step-fits op (Int a) (Int b) (Flag v) h k = half-step
step-fits op (Int a) (Int b) (String v) h k = half-step
step-fits op (Int a) Null v h k = half-step
step-fits op (Int a) (Flag b) v h k = half-step
step-fits op (Int a) (String b) v h k = half-step
step-fits op Null b v h k = half-step
step-fits op (Flag a) b v h k = half-step
step-fits op (String a) b v h k = half-step

abbrev IsPart : ℕ × ℕ → Type 0
IsPart p = (p.0 ≤ p.1) × (1 ≤ p.1)

place-in-fits : (k j g u : ℕ) → 1 ≤ j → j < k → u ≤ 2 * g → 1 ≤ g → IsPart (part_below_literal k j (g, u))
place-in-fits k j g u some within up wide =
    let split : (2 * j - 2 + 2) * g ≡ (2 * j - 2) * g + 2 * g = add-mul (2 * j - 2) 2 g in
    let less : (2 * j - 2 + 2) * g ≤ 2 * (k - 1) * g = mul-le-mul_right g (omega (arith, some, within)) in
    let one : 2 * (k - 1) * 1 ≤ 2 * (k - 1) * g = mul-le-mul_left (2 * (k - 1)) wide in
    (by ((2 * j - 2 + 2) * g) ((2 * j - 2) * g) (2 * (k - 1) * g) split less, omega (arith, one, some, within))
  where
    by : (a b c : ℕ) → a ≡ b + 2 * g → a ≤ c → b + u ≤ c
    by a b c e h = omega (arith, e, h, up)

-- the parts before a literal are within the whole
pub place-fits : (t : SqlType) (s : Statistics) → IsLawfulStatistics t s → (op : Op) (v : Value) → 1 ≤ length s.histogram → IsPart (place op s v (bounds_passed op s.histogram v))
place-fits t s h op v some = by (nat_eq j 0) (nat_eq j k) refl refl
  where
    k : ℕ
    k = length s.histogram

    j : ℕ
    j = bounds_passed op s.histogram v

    w : ℕ × ℕ
    w = histogram_step op (bound_at s (j - 1)) (bound_at s j) v

    few : j ≤ k
    few = count_by-le-length _ s.histogram

    whole : 1 ≤ 2 * (k - 1)
    whole = omega (arith, some, h.two)

    between : 1 ≤ j → j < k → IsPart (part_below_literal k j w)
    between first last =
        let step = step-fits op (bound_at s (j - 1)) (bound_at s j) v
        (passed op t s h v (j - 1) (omega (arith, first, last)) ∙ (let lt : nat_lt (j - 1) j ≡ true = grind (arith, nat_tests, first) in lt))
        (passed op t s h v j last ∙ (let lt : nat_lt j j ≡ false = grind (arith, nat_tests) in lt)) in
        place-in-fits k j w.0 w.1 first last step.0 step.1

    by : (b d : Bool) → nat_eq j 0 ≡ b → nat_eq j k ≡ d → IsPart (cond b (0, 2 * (k - 1)) (cond d (2 * (k - 1), 2 * (k - 1)) (part_below_literal k j w)))
    by true d e f = (omega arith, whole)
    by false true e f = (omega arith, whole)
    by false false e f = between (grind (arith, nat_tests, common_steps, e)) (grind (arith, nat_tests, common_steps, f, few))

met-fits : (op : Op) (p : ℕ × ℕ) → IsPart p → met_of op p ≤ p.1
met-fits Lt p h = h.0
met-fits Le p h = h.0
met-fits Eq p h = omega arith
met-fits Ge p h = omega arith
met-fits Gt p h = omega arith
met-fits Ne p h = omega arith
met-fits AbsLt p h = omega arith
met-fits AbsLe p h = omega arith
met-fits AbsEq p h = omega arith
met-fits AbsGe p h = omega arith
met-fits AbsGt p h = omega arith

-- the parts at which a comparison holds are within the whole, which is something
pub met-most : (t : SqlType) (s : Statistics) → IsLawfulStatistics t s → (op : Op) (v : Value) → 1 ≤ length s.histogram →
    (met_of op (place op s v (bounds_passed op s.histogram v)) ≤ (place op s v (bounds_passed op s.histogram v)).1) × (1 ≤ (place op s v (bounds_passed op s.histogram v)).1)
met-most t s h op v some =
    let fits = place-fits t s h op v some in
    (met-fits op (place op s v (bounds_passed op s.histogram v)) fits, fits.1)

-- the place of a literal behind some bounds and before others
pub place-between : (op : Op) (s : Statistics) (v : Value) (j : ℕ) (a b : Value) (w p : ℕ × ℕ) → j ≡ bounds_passed op s.histogram v → 1 ≤ j → j < length s.histogram →
    w ≡ histogram_step op (slice_index_or s.histogram (j - 1) a) (slice_index_or s.histogram j b) v → p ≡ part_below_literal (length s.histogram) j w → p ≡ place op s v (bounds_passed op s.histogram v)
place-between op s v j a b w p count some within step is =
    is ∙ ap (part_below_literal (length s.histogram) j) (step ∙ ap (λ x. histogram_step op x (slice_index_or s.histogram j b) v) (get_or_default s.histogram (j - 1) a Null (omega (arith, some, within))) ∙ ap (λ x. histogram_step op (bound_at s (j - 1)) x v) (get_or_default s.histogram j b Null within))
    ∙ by (nat_eq j 0) (nat_eq j (length s.histogram)) refl refl ∙ ap (place op s v) count
  where
    by : (d e : Bool) → nat_eq j 0 ≡ d → nat_eq j (length s.histogram) ≡ e →
        part_below_literal (length s.histogram) j (histogram_step op (bound_at s (j - 1)) (bound_at s j) v) ≡
        cond (nat_eq j 0) (0, 2 * (length s.histogram - 1)) (cond (nat_eq j (length s.histogram)) (2 * (length s.histogram - 1), 2 * (length s.histogram - 1)) (part_below_literal (length s.histogram) j (histogram_step op (bound_at s (j - 1)) (bound_at s j) v)))
    by true e f g = absurd (grind (arith, common_steps, f, some))
    by false true f g = absurd (grind (arith, common_steps, g, within))
    by false false f g = sym (ap (λ t. cond t (0, 2 * (length s.histogram - 1)) (cond (nat_eq j (length s.histogram)) (2 * (length s.histogram - 1), 2 * (length s.histogram - 1)) (part_below_literal (length s.histogram) j (histogram_step op (bound_at s (j - 1)) (bound_at s j) v)))) f
        ∙ ap (λ t. cond t (2 * (length s.histogram - 1), 2 * (length s.histogram - 1)) (part_below_literal (length s.histogram) j (histogram_step op (bound_at s (j - 1)) (bound_at s j) v))) g)

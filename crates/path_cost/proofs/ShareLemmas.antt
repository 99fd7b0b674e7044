-- Selectivities are at most all rows.
use Rattle.std.proofs.Common.{◌≡◌, ◌≤◌, ℕ, ◌+◌, ◌-◌, ◌*◌, ◌/◌, ◌^◌, max, Bool, true, false, cond, nat_eq, List, [], ◌∷◌, length, refl, sym, subst, arith, le_refl, le_trans, mul-le-mul_left, mul-le-mul_right, mul-le-mul, add-mul}
use Rattle.std.proofs.lemmas.Grind.{common_steps}
use Rattle.std.proofs.Math.Nat.{div-le_self}
use Rattle.std.proofs.lemmas.Option.{same_Some}
use Rattle.std.specs.Prelude.{find, Option, Some, None}
use Rattle.std.specs.Option.{option_map}
use Rattle.pg_value.specs.declared.columns.Column.{Column}
use Rattle.pg_value.specs.declared.operators.Op.{Op}
use Rattle.pg_value.specs.declared.operators.Op.TheVariants.{Lt, Le, Eq, Ge, Gt, Ne, AbsLt, AbsLe, AbsEq, AbsGe, AbsGt}
use Rattle.pg_value.specs.declared.value.SqlType.{SqlType}
use Rattle.pg_value.specs.declared.value.Value.{Value}
use Rattle.catalog.specs.Statistics.{Statistics, Common, IsLawfulStatistics, shares}
use Rattle.catalog.specs.declared.limits.TheConstants.{WHOLE_SHARE}
use Rattle.path_cost.specs.declared.shares.TheConstants.{ALL_ROWS, THIRD, UNKNOWN_NULLS, PER_SHARE}
use Rattle.path_cost.specs.declared.known.Known.{Known}
use Rattle.path_cost.specs.work.Known.{IsLawfulKnown, statistics_of}
use Rattle.path_cost.proofs.PlaceLemmas.{met-most, part_fits, quotient-most}
use Rattle.path_cost.specs.Selectivity.{comparison_holds, valued, uncommon, equal_by, equal_share, bounds_passed, met_of, place, by_histogram, shares_met, inequality, column_literal, equal_columns, two_columns, all_or_none, null_by, and_share, or_share}

thousand : (n : ℕ) → n ≤ 10 ^ 6 → PER_SHARE * n ≤ 10 ^ 9
thousand n h = omega (arith, h)

valued-most : (s : Statistics) → valued s ≤ 10 ^ 6
valued-most s = omega arith

uncommon-most : (s : Statistics) → uncommon s ≤ 10 ^ 6
uncommon-most s = omega arith

-- AND leaves no more
pub and_most : (a b : ℕ) → a ≤ ALL_ROWS → b ≤ ALL_ROWS → and_share a b ≤ ALL_ROWS
and_most a b h k = let times : a * b ≤ ALL_ROWS * b = mul-le-mul_right b h in grind (arith, common_steps, times, k)

-- OR of two shares
pub or_most : (a b : ℕ) → a ≤ ALL_ROWS → b ≤ ALL_ROWS → or_share a b ≤ ALL_ROWS
or_most a b h k =
    let c = ALL_ROWS - a in
    let all : a + c ≡ ALL_ROWS = omega (arith, h) in
    let times : ALL_ROWS * b ≡ a * b + c * b = subst (λ n. n * b ≡ a * b + c * b) all (add-mul a c b) in
    let rest : c * b ≤ c * ALL_ROWS = mul-le-mul_left c k in
    or-by a b c (a * b) (c * b) all times rest
  where
    or-by : (a b c p r : ℕ) → a + c ≡ ALL_ROWS → ALL_ROWS * b ≡ p + r → r ≤ c * ALL_ROWS → a + b - p / ALL_ROWS ≤ ALL_ROWS
    or-by a b c p r all times rest = omega (arith, all, times, rest)

-- no more than either
pub and_lower : (a b : ℕ) → a ≤ ALL_ROWS → and_share a b ≤ b
and_lower a b h = let times : a * b ≤ ALL_ROWS * b = mul-le-mul_right b h in grind (arith, common_steps, times)

pub less-than-all : (a : ℕ) → ALL_ROWS - a ≤ ALL_ROWS
less-than-all a = omega arith

part-most : (n d m : ℕ) → n ≤ m → n / d ≤ m
part-most n d m h = le_trans (div-le_self n d) h

-- a common value's share is one of them
share-most : (test : Common → Bool) (xs : List Common) (n : ℕ) → option_map (λ (p : Common). p.1) (find test xs) ≡ Some n → n ≤ shares xs
share-most test [] n e = cc
share-most test (x ∷ xs) n e = by (test x) e (share-most test xs n)
  where
    by : (b : Bool) → option_map (λ (p : Common). p.1) (cond b (Some x) (find test xs)) ≡ Some n → (option_map (λ (p : Common). p.1) (find test xs) ≡ Some n → n ≤ shares xs) → n ≤ shares (x ∷ xs)
    by true f later = grind (arith, common_steps, same_Some x.1 n f)
    by false f later = grind (arith, common_steps, later f)

module _ (t : SqlType) (s : Statistics) (h : IsLawfulStatistics t s) where
  equal-by-most : (o : Option ℕ) → ((n : ℕ) → o ≡ Some n → n ≤ shares s.common) → equal_by s o ≤ ALL_ROWS
  equal-by-most None e = part-most (PER_SHARE * uncommon s) (max 1 (s.distinct - length s.common)) ALL_ROWS (thousand (uncommon s) (uncommon-most s))
  equal-by-most (Some n) e = thousand n (omega (arith, e n refl, h.whole))

  equal-to-most : (v : Value) → equal_share s v ≤ ALL_ROWS
  equal-to-most v = equal-by-most (option_map (λ (p : Common). p.1) (find (λ (p : Common). comparison_holds Eq p.0 v) s.common)) (share-most (λ (p : Common). comparison_holds Eq p.0 v) s.common)

columns-most : (s t : Statistics) → 1 ≤ s.distinct → equal_columns s t ≤ ALL_ROWS
columns-most s t some =
    let v : ALL_ROWS * valued s ≤ ALL_ROWS * WHOLE_SHARE = mul-le-mul_left ALL_ROWS (valued-most s) in
    let w : ALL_ROWS * valued s * valued t ≤ ALL_ROWS * WHOLE_SHARE * WHOLE_SHARE = mul-le-mul v (valued-most t) in
    let d : WHOLE_SHARE * WHOLE_SHARE * 1 ≤ WHOLE_SHARE * WHOLE_SHARE * max s.distinct t.distinct = mul-le-mul_left (WHOLE_SHARE * WHOLE_SHARE) (at-least-one s.distinct t.distinct some) in
    by (ALL_ROWS * valued s * valued t) (WHOLE_SHARE * WHOLE_SHARE * max s.distinct t.distinct) w d
  where
    at-least-one : (a b : ℕ) → 1 ≤ a → 1 ≤ max a b
    at-least-one a b h = omega (arith, h)

    by : (n m : ℕ) → n ≤ ALL_ROWS * WHOLE_SHARE * WHOLE_SHARE → WHOLE_SHARE * WHOLE_SHARE * 1 ≤ m → n / m ≤ ALL_ROWS
    by n m w d = quotient-most n ALL_ROWS m (omega (arith, d)) (omega (arith, w, d))

-- the share of two columns that are equal is no more than all rows, by what is not NULL and how many values there are
pub columns_share : (a b d e : ℕ) → a ≤ WHOLE_SHARE → b ≤ WHOLE_SHARE → 1 ≤ d → ALL_ROWS * a * b / (WHOLE_SHARE * WHOLE_SHARE * max d e) ≤ ALL_ROWS
columns_share a b d e h k some =
    let v : ALL_ROWS * a ≤ ALL_ROWS * WHOLE_SHARE = mul-le-mul_left ALL_ROWS h in
    let w : ALL_ROWS * a * b ≤ ALL_ROWS * WHOLE_SHARE * WHOLE_SHARE = mul-le-mul v k in
    let one : 1 ≤ max d e = omega (arith, some) in
    let m : WHOLE_SHARE * WHOLE_SHARE * 1 ≤ WHOLE_SHARE * WHOLE_SHARE * max d e = mul-le-mul_left (WHOLE_SHARE * WHOLE_SHARE) one in
    by (ALL_ROWS * a * b) (WHOLE_SHARE * WHOLE_SHARE * max d e) w m
  where
    by : (n m : ℕ) → n ≤ ALL_ROWS * WHOLE_SHARE * WHOLE_SHARE → WHOLE_SHARE * WHOLE_SHARE * 1 ≤ m → n / m ≤ ALL_ROWS
    by n m w d = quotient-most n ALL_ROWS m (omega (arith, d)) (omega (arith, w, d))

shares-met-most : (op : Op) (v : Value) (xs : List Common) → shares_met op xs v ≤ shares xs
shares-met-most op v [] = le_refl 0
shares-met-most op v (x ∷ xs) = grind (arith, common_steps, shares-met-most op v xs)

-- common values that meet a comparison, and a part of the others
parts-most : (n m u h w : ℕ) → n ≤ m → h ≤ w → 1 ≤ w → PER_SHARE * n + PER_SHARE * u * h / w ≤ PER_SHARE * (m + u)
parts-most n m u h w few within some = omega (arith, few, part_fits (PER_SHARE * u) h w within some)

module _ (t : SqlType) (s : Statistics) (h : IsLawfulStatistics t s) where
  -- with a histogram an inequality holds at no more rows than are without NULL
  by_histogram-most : (op : Op) (v : Value) → 1 ≤ length s.histogram → by_histogram op s v ≤ PER_SHARE * valued s
  by_histogram-most op v some =
      let fits = met-most t s h op v some in
      let p = place op s v (bounds_passed op s.histogram v) in
      le_trans (parts-most (shares_met op s.common v) (shares s.common) (uncommon s) (met_of op p) p.1 (shares-met-most op v s.common) fits.0 fits.1) (omega (arith, h.whole))

  pub ranged-most : (op : Op) (v : Value) → nat_eq (length s.histogram) 0 ≡ false → inequality op s v ≤ PER_SHARE * valued s
  ranged-most op v e = subst (λ b. cond b THIRD (by_histogram op s v) ≤ PER_SHARE * valued s) (sym e) (by_histogram-most op v (grind (arith, common_steps, e)))

  inequality-most : (op : Op) (v : Value) → inequality op s v ≤ ALL_ROWS
  inequality-most op v = by (nat_eq (length s.histogram) 0) refl
    where
      by : (b : Bool) → nat_eq (length s.histogram) 0 ≡ b → cond b THIRD (by_histogram op s v) ≤ ALL_ROWS
      by true e = omega arith
      by false e = le_trans (by_histogram-most op v (grind (arith, common_steps, e))) (thousand (valued s) (valued-most s))

  pub column-most : (op : Op) (v : Value) → column_literal op s v ≤ ALL_ROWS
  column-most Lt v = inequality-most Lt v
  column-most Le v = inequality-most Le v
  column-most Eq v = equal-to-most t s h v
  column-most Ge v = inequality-most Ge v
  column-most Gt v = inequality-most Gt v
  column-most Ne v = omega (arith, thousand (valued s) (valued-most s))
  column-most AbsLt v = omega arith
  column-most AbsLe v = omega arith
  column-most AbsEq v = part-most (PER_SHARE * valued s) s.distinct ALL_ROWS (thousand (valued s) (valued-most s))
  column-most AbsGe v = omega arith
  column-most AbsGt v = omega arith

pub two-columns-most : (op : Op) (s t : Statistics) → 1 ≤ s.distinct → two_columns op s t ≤ ALL_ROWS
two-columns-most Lt s t h = omega arith
two-columns-most Le s t h = omega arith
two-columns-most Eq s t h = columns-most s t h
two-columns-most Ge s t h = omega arith
two-columns-most Gt s t h = omega arith
two-columns-most Ne s t h = less-than-all (equal_columns s t)
two-columns-most AbsLt s t h = omega arith
two-columns-most AbsLe s t h = omega arith
two-columns-most AbsEq s t h = columns-most s t h
two-columns-most AbsGe s t h = omega arith
two-columns-most AbsGt s t h = omega arith

pub all-most : (b : Bool) → all_or_none b ≤ ALL_ROWS
all-most true = omega arith
all-most false = omega arith

pub null-most : (column : Column) (o : Option Statistics) → ((s : Statistics) → o ≡ Some s → s.nulls ≤ 10 ^ 6) → null_by column o ≤ ALL_ROWS
null-most column None h = by column.not_null
  where
    by : (b : Bool) → cond b 0 UNKNOWN_NULLS ≤ ALL_ROWS
    by true = omega arith
    by false = omega arith
null-most column (Some s) h = by column.not_null
  where
    by : (b : Bool) → cond b 0 (PER_SHARE * s.nulls) ≤ ALL_ROWS
    by true = omega arith
    by false = thousand s.nulls (h s refl)

pub column_share : (k : Known) (op : Op) (v : Value) → IsLawfulKnown k → column_literal op (statistics_of k) v ≤ ALL_ROWS
column_share k op v h = column-most k.typed (statistics_of k) h op v

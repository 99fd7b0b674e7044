-- The size of a table and what is known of a column (PostgreSQL manual, pg_class and pg_stats; the forms and limits are own).
use Rattle.std.specs.Prelude.{◌≡◌, ◌≢◌, ◌≤◌, ◌<◌, ◌+◌, ◌-◌, ◌*◌, ◌/◌, ◌%◌, ◌&&◌, ◌||◌, ℕ, Bool, true, false, not, cond, List, length, take, All, AllPairs, sum_by, nat_eq, nat_le, nat_lt, slice_index_or}
use Rattle.std.specs.List.{list_any}
use Rattle.std.specs.Ordering.{is_eq, is_lt}
use Rattle.opfamily.specs.pg_value_value_SqlType.{SqlType}
use Rattle.opfamily.specs.pg_value_value_Value.{Value}
use Rattle.opfamily.specs.pg_value_value_Value_TheVariants.{Null}
use Rattle.opfamily.specs.pg_value_Order.{value_order}
use Rattle.opfamily.specs.pg_value_Truths.{kind_family}
use Rattle.opfamily.specs.pg_value_Types.{IsOfType}
use Rattle.catalog.specs.declared.table.Sizes.{Sizes}
use Rattle.catalog.specs.declared.limits.TheConstants.{MOST_NUMBER, WHOLE_SHARE, MOST_COMMON, MOST_BOUNDS}

-- a common value, and its share of the rows in parts per million
abbrev pub Common : Type 0
Common = Value × ℕ

-- what is known of a column: how many different values it has, the share of NULLs in parts per million, its common values, and the bounds of its histogram
pub record Statistics : Type 0 where
  pub distinct : ℕ
  pub nulls : ℕ
  pub common : List Common
  pub histogram : List Value

-- a number of rows, of pages or of different values: 1 to 10^9
abbrev pub is_count : ℕ → Bool
is_count n = nat_le 1 n && nat_le n MOST_NUMBER

-- the shares of common values together
abbrev pub shares : List Common → ℕ
shares common = sum_by (λ (p : Common). p.1) common

-- two values of a kind are equal, and the first is below the second, in the default family of their kind
abbrev pub is_equal : Value → Value → Bool
is_equal a b = is_eq (value_order (kind_family a) a b)

-- a value is below another of its kind; no bound of a histogram may be below the one before it
abbrev pub is_below : Value → Value → Bool
is_below a b = is_lt (value_order (kind_family a) a b)

-- a value that is not NULL, of a type
abbrev pub IsValueOf : SqlType → Value → Type 0
IsValueOf t v = (v ≢ Null) × IsOfType t v

-- the values that are known of a column are of its type, and none is NULL
pub record AreValuesOf (t : SqlType) (s : Statistics) : Type 0 where
  pub common : All (λ (p : Common). IsValueOf t p.0) s.common
  pub histogram : All (IsValueOf t) s.histogram

-- what stands where a number is none of a common value or of a bound
abbrev pub no_common : Common
no_common = (Null, 0)

-- the common value of a number, from 0, with its share (pg_stats, most_common_vals and most_common_freqs)
abbrev pub common_at : Statistics → ℕ → Common
common_at s k = slice_index_or s.common k no_common

-- the bound of a number, from 0 (pg_stats, histogram_bounds)
abbrev pub bound_at : Statistics → ℕ → Value
bound_at s k = slice_index_or s.histogram k Null

-- a common value is refused: it is one too many, or equals an earlier one, or there are fewer different values
abbrev pub is_common_refused : Statistics → ℕ → Bool
is_common_refused s k = nat_le MOST_COMMON k || (nat_le s.distinct k || list_any (λ (p : Common). is_equal p.0 (common_at s k).0) (take k s.common))

-- a share is refused: it is 0, or the NULLs and the shares up to it pass the whole
abbrev pub is_share_refused : Statistics → ℕ → Bool
is_share_refused s k = nat_eq (common_at s k).1 0 || nat_lt WHOLE_SHARE (s.nulls + shares (take (k + 1) s.common))

-- a bound is refused: it is one too many, or the only one, or is below the one before it
abbrev pub is_bound_refused : Statistics → ℕ → Bool
is_bound_refused s k = nat_le MOST_BOUNDS k || (nat_eq (length s.histogram) 1 || (nat_lt 0 k && is_below (bound_at s k) (bound_at s (k - 1))))

-- the places of the text count from 0: DISTINCT and NULLS, then each common value with its share, then the bounds
abbrev pub pair_of : ℕ → ℕ
pair_of place = place / 2 - 1

-- the number of the bound that stands at a place, from 0; it is one where the place is behind those of all common values
abbrev pub bound_number_at : Statistics → ℕ → ℕ
bound_number_at s place = place - (2 + 2 * length s.common)

-- a common value stands at each even place, and its share behind it
abbrev pub is_pair_refused : Statistics → ℕ → Bool
is_pair_refused s place = cond (nat_eq (place % 2) 0) (is_common_refused s (pair_of place)) (is_share_refused s (pair_of place))

-- the number or the literal at a place is refused
abbrev pub is_refused : Statistics → ℕ → Bool
is_refused s place =
    cond (nat_eq place 0) (not (is_count s.distinct))
    (cond (nat_eq place 1) (nat_lt WHOLE_SHARE s.nulls)
    (cond (nat_lt (pair_of place) (length s.common)) (is_pair_refused s place)
    (nat_lt (bound_number_at s place) (length s.histogram) && is_bound_refused s (bound_number_at s place))))

-- nothing is refused
abbrev pub AreAllowed : Statistics → Type 0
AreAllowed s = (place : ℕ) → is_refused s place ≡ false

-- the first place at which something is refused
pub record IsFirstRefused (s : Statistics) (place : ℕ) : Type 0 where
  pub refused : is_refused s place ≡ true
  pub before : (n : ℕ) → n < place → is_refused s n ≡ false

-- lawful sizes
pub record AreLawfulSizes (s : Sizes) : Type 0 where
  pub rows : is_count s.rows ≡ true
  pub pages : is_count s.pages ≡ true

-- lawful statistics of a column of a type: 1 to 10^9 different values; at most 16 common ones, different and no more than there are, each with a share, with the NULLs at most all rows; no bounds or 2 to 101, none below the one before it
pub record IsLawfulStatistics (t : SqlType) (s : Statistics) : Type 0 where
  pub some : 1 ≤ s.distinct
  pub most : s.distinct ≤ MOST_NUMBER
  pub few : length s.common ≤ MOST_COMMON
  pub within : length s.common ≤ s.distinct
  pub different : AllPairs (λ (a b : Common). is_equal a.0 b.0 ≡ false) s.common
  pub shared : All (λ (p : Common). 1 ≤ p.1) s.common
  pub whole : s.nulls + shares s.common ≤ WHOLE_SHARE
  pub bounds : length s.histogram ≤ MOST_BOUNDS
  pub two : length s.histogram ≢ 1
  pub rising : (n : ℕ) → n + 1 < length s.histogram → is_below (bound_at s (n + 1)) (bound_at s n) ≡ false
  pub values : AreValuesOf t s

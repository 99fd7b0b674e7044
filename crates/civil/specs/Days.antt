-- Days as whole numbers from 2000-01-01 on, in the proleptic Gregorian calendar (PostgreSQL manual, Date/Time Types; the years 1 to 9999 are own).
use Rattle.std.specs.Prelude.{ℕ, ◌&&◌, Bool, nat_le, List, map, flat_map, ℤ, pos, neg_ℤ, ◌-ℤ◌, Option}
use Rattle.std.specs.List.{find, range_with_len}
use Rattle.std.specs.Ordering.{int_cmp, int_eq, is_le}
use Rattle.jiff_core.specs.Calendar.{days_from_civil, days_in_month}

-- a day of the calendar by its year, its month and its day in the month
pub record Day : Type 0 where
  pub year : ℕ
  pub month : ℕ
  pub day : ℕ

-- the day of these parts
abbrev pub day_with : ℕ → ℕ → ℕ → Day
day_with y m d = record { year = y; month = m; day = d }

-- the calendar has this day: a year from 1 to 9999, a month from 1 to 12, and a day that the month has
abbrev pub is_day : Day → Bool
is_day x = (nat_le 1 x.year && nat_le x.year 9999) && ((nat_le 1 x.month && nat_le x.month 12) && (nat_le 1 x.day && nat_le x.day (days_in_month (pos x.year) x.month)))

-- the number of a day: 0 for 2000-01-01, which is day 10957 from 1970-01-01 on
abbrev pub day_number : Day → ℤ
day_number x = days_from_civil (pos x.year) x.month x.day -ℤ pos 10957

-- a number is a day's: from 0001-01-01 to 9999-12-31
abbrev pub is_date_number : ℤ → Bool
is_date_number n = is_le (int_cmp (neg_ℤ (pos 730_119)) n) && is_le (int_cmp n (pos 2_921_939))

-- the days of a month, in order
abbrev pub days_of_month : ℕ → ℕ → List Day
days_of_month y m = map (day_with y m) (range_with_len 1 (days_in_month (pos y) m))

-- the days of a year, in order
abbrev pub days_of_year : ℕ → List Day
days_of_year y = flat_map (days_of_month y) (range_with_len 1 12)

-- the days of the years 1 to 9999, in order
unfoldable pub all_days : List Day
all_days = flat_map days_of_year (range_with_len 1 9999)

-- the day that has this number
unfoldable pub day_numbered : ℤ → Option Day
day_numbered n = find (λ x. int_eq (day_number x) n) all_days

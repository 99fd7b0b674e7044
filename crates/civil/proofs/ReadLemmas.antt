-- What is read of a text is a value of the type.
use Rattle.std.proofs.Common.{◌≡◌, ℕ, ◌^◌, ◌<◌, ◌≤◌, Bool, true, false, ◌&&◌, List, drop, refl, sym, ap, subst, ◌∙◌, arith, ℤ, pos, neg_ℤ, ◌+ℤ◌, ◌*ℤ◌, ◌≤ℤ◌, unsigned_abs, Ok}
use Rattle.std.specs.Prelude.{nat_le, nat_lt}
use Rattle.std.specs.List.{list_all}
use Rattle.std.specs.Ordering.{int_cmp, is_le}
use Rattle.std.specs.Str.Parse.{starts_with_minus, without_leading_sign}
use Rattle.std.proofs.lemmas.Bool.{and_parts, and_from, leb-true}
use Rattle.std.proofs.lemmas.Int.{by_lt_z, ints}
use Rattle.jiff_core.specs.Calendar.{IsCivilDate, day_count}
use Rattle.jiff_core.proofs.CalendarLemmas.{day_count_bounds, day_count-day_of_year, day_count-later_year, days_from_civil-day_count}
use Rattle.jiff_core.proofs.SignedLemmas.{signed_arith}
use Rattle.civil.specs.Days.{Day, day_number, is_date_number, is_day}
use Rattle.civil.specs.Forms.{has_a_form, number_at, signed}
use Rattle.civil.specs.Numerics.{fraction_digits, is_decimal, is_in, is_nought, is_numeric_number, is_size, numeric_value, scaled}
use Rattle.civil.specs.Times.{clock_micros, date_value, day_in, formed, has_instant, instant, is_clock, is_date_text, is_instant, is_moment, is_offset, is_timestamp_text, moment, offset_forms, offset_of, ranged, timestamp_value, timestamptz_value, without_offset}
use Rattle.civil.proofs.FormLemmas.{below-one}
use Rattle.civil.proofs.NumberedLemmas.{at-least, first-count, in-calendar}
use Rattle.civil.proofs.TimeLemmas.{IsTimeShaped, time-of-text}

-- a number between two ends passes their test
pub within : (low n high : ℤ) → low ≤ℤ n → n ≤ℤ high → (is_le (int_cmp low n) && is_le (int_cmp n high)) ≡ true
within low n high l h = and_from (is_le (int_cmp low n)) (is_le (int_cmp n high)) (le-to low n l) (le-to n high h)
  where
    le-to : (a b : ℤ) → a ≤ℤ b → is_le (int_cmp a b) ≡ true
    le-to a b h = grind (arith, ints)

-- a day of the calendar has a number between the ends
pub day-bound : (x : Day) → is_day x ≡ true → is_date_number (day_number x) ≡ true
day-bound x h =
    let parts = in-calendar x h in
    let first : 3_652_791 ≤ day_count (pos x.year) 1 1 = by_lt_z (pos 1) (pos x.year)
    (λ lt. omega (arith, first-count, day_count-later_year (pos 1) (pos x.year) (omega (arith, ints)) lt))
    (λ le. let one : x.year ≡ 1 = omega (arith, ints, le, parts.first-year) in subst (λ (y : ℕ). 3_652_791 ≤ day_count (pos y) 1 1) (sym one) (omega (arith, first-count))) in
    let low : 3_652_791 ≤ day_count (pos x.year) x.month x.day = omega (arith, first, day_count-day_of_year (pos x.year) x.month x.day parts.first-day, parts.first-day) in
    let civil : IsCivilDate (pos x.year) x.month x.day = ((omega (arith, ints), omega (arith, ints, parts.last-year)), (parts.first-month, parts.last-month), (parts.first-day, parts.last-day)) in
    let high = (day_count_bounds (pos x.year) x.month x.day civil).1 in
    within (neg_ℤ (pos 730_119)) (day_number x) (pos 2_921_939)
    (omega (arith, signed_arith, days_from_civil-day_count (pos x.year) x.month x.day, low))
    (omega (arith, signed_arith, days_from_civil-day_count (pos x.year) x.month x.day, high))

-- what is read is in range
read : (form range : Bool) (value n : ℤ) → formed form (ranged range value) ≡ Ok n → (form ≡ true) × (range ≡ true) × (value ≡ n)
read true true value n is = (refl, refl, cc)
read true false value n is = absurd (cc (is))
read false range value n is = absurd (cc (is))

pub date-typed : (text : List ℕ) (n : ℤ) → date_value text ≡ Ok n → is_date_number n ≡ true
date-typed text n is =
    let parts = read (is_date_text text) (is_day (day_in text)) (day_number (day_in text)) n is in
    subst (λ (z : ℤ). is_date_number z ≡ true) parts.2 (day-bound (day_in text) parts.1)

-- a clock's time is within a day
pub clock-bound : (time : List ℕ) → IsTimeShaped time → is_clock time ≡ true → clock_micros time < 86_400_000_000
clock-bound time shaped h =
    let parts = and_parts (nat_le (number_at 0 2 time) 23) (nat_le (number_at 3 2 time) 59 && nat_le (number_at 6 2 time) 59) h in
    let rest = and_parts (nat_le (number_at 3 2 time) 59) (nat_le (number_at 6 2 time) 59) parts.1 in
    let hours = leb-true (number_at 0 2 time) 23 parts.0 in
    let minutes = leb-true (number_at 3 2 time) 59 rest.0 in
    let seconds = leb-true (number_at 6 2 time) 59 rest.1 in
    let micros = below-one 6 (drop 9 time) shaped.fraction in
    omega (arith, hours, minutes, seconds, micros)

pub moment-bound : (text : List ℕ) → is_timestamp_text text ≡ true → is_moment text ≡ true → is_instant (moment text) ≡ true
moment-bound text form h =
    let parts = and_parts (is_day (day_in text)) (is_clock (drop 11 text)) h in
    let day = at-least (neg_ℤ (pos 730_119)) (day_number (day_in text)) (pos 2_921_939) (day-bound (day_in text) parts.0) in
    let clock = clock-bound (drop 11 text) (time-of-text text (drop 11 text) refl form) parts.1 in
    instant-of (day_number (day_in text)) (clock_micros (drop 11 text)) day.0 day.1 clock
  where
    instant-of : (d : ℤ) (k : ℕ) → neg_ℤ (pos 730_119) ≤ℤ d → d ≤ℤ pos 2_921_939 → k < 86_400_000_000 → is_instant (d *ℤ pos 86_400_000_000 +ℤ pos k) ≡ true
    instant-of d k low high small =
        within (neg_ℤ (pos 63_082_281_600_000_000)) (d *ℤ pos 86_400_000_000 +ℤ pos k) (pos 252_455_615_999_999_999)
        (omega (arith, signed_arith, low)) (omega (arith, signed_arith, high, small))

pub timestamp-typed : (text : List ℕ) (n : ℤ) → timestamp_value text ≡ Ok n → is_instant n ≡ true
timestamp-typed text n is =
    let parts = read (is_timestamp_text text) (is_moment text) (moment text) n is in
    subst (λ (z : ℤ). is_instant z ≡ true) parts.2 (moment-bound text parts.0 parts.1)

pub timestamptz-typed : (text : List ℕ) (n : ℤ) → timestamptz_value text ≡ Ok n → is_instant n ≡ true
timestamptz-typed text n is =
    let clock = without_offset text in
    let offset = offset_of text in
    let parts = read (is_timestamp_text clock && has_a_form offset_forms offset) (has_instant clock offset) (instant clock offset) n is in
    let range = and_parts (is_moment clock) (is_offset offset && is_instant (instant clock offset)) parts.1 in
    subst (λ (z : ℤ). is_instant z ≡ true) parts.2 (and_parts (is_offset offset) (is_instant (instant clock offset)) range.1).1

pub numeric-typed : (digits scale : ℕ) (text : List ℕ) (n : ℤ) → numeric_value digits scale text ≡ Ok n → is_numeric_number digits scale n ≡ true
numeric-typed digits scale text n is =
    let size = without_leading_sign text in
    let parts = read (is_decimal size) (is_in digits scale size) (signed (starts_with_minus text) (scaled scale size)) n is in
    let sized = and_parts (is_size digits scale) (list_all is_nought (drop scale (fraction_digits size)) && nat_lt (scaled scale size) (10 ^ digits)) parts.1 in
    let below = (and_parts (list_all is_nought (drop scale (fraction_digits size))) (nat_lt (scaled scale size) (10 ^ digits)) sized.1).1 in
    let same = unsigned-abs (starts_with_minus text) (scaled scale size) in
    subst (λ (z : ℤ). is_numeric_number digits scale z ≡ true) parts.2
    (and_from (is_size digits scale) (nat_lt (unsigned_abs (signed (starts_with_minus text) (scaled scale size))) (10 ^ digits)) sized.0
    (ap (λ (k : ℕ). nat_lt k (10 ^ digits)) same ∙ below))
  where
    unsigned-abs : (b : Bool) (k : ℕ) → unsigned_abs (signed b k) ≡ k
    unsigned-abs true k = omega (arith, signed_arith)
    unsigned-abs false k = refl

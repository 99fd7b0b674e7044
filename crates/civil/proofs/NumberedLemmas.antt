-- Which day of the calendar has a number: the days are all there, and no two have one number.
use Rattle.std.proofs.Common.{◌≡◌, ℕ, zero, suc, ◌+◌, ◌<◌, ◌≤◌, Bool, true, false, true≢false, cond, ◌&&◌, ◌||◌, List, [], ◌∷◌, refl, sym, ap, ap₂, subst, ◌∙◌, arith, ℤ, pos, neg_ℤ, ◌+ℤ◌, ◌-ℤ◌, ◌≤ℤ◌, unsigned_abs, int_eq, Some, map, w16, w64, to_z, of_z}
use Rattle.std.specs.Prelude.{flat_map, nat_le}
use Rattle.std.specs.List.{find, list_all, list_any, range_with_len}
use Rattle.std.specs.Ordering.{int_cmp, is_le}
use Rattle.std.proofs.lemmas.Bool.{and_parts, and_from, le-leb, leb-true}
use Rattle.std.proofs.lemmas.Int.{by_lt_z, ints}
use Rattle.std.proofs.lemmas.List.Folds.{list_all-append, list_any-append}
use Rattle.jiff_core.specs.declared.civil.date.Date.{Date}
use Rattle.jiff_core.specs.Calendar.{day_count, days_from_civil, days_in_month}
use Rattle.jiff_core.specs.Date.{epoch_day}
use Rattle.jiff_core.proofs.CalendarLemmas.{day_count-lt_year, days_from_civil-day_count}
use Rattle.jiff_core.proofs.DateLemmas.{civil, epoch_day_injective}
use Rattle.jiff_core.proofs.MarchLemmas.{day_count-early}
use Rattle.jiff_core.proofs.SignedLemmas.{back_small, one_part, signed_arith}
use Rattle.civil.specs.Days.{Day, all_days, day_number, day_numbered, day_with, days_of_month, days_of_year, is_date_number, is_day}

-- a test that some element of a list passes
any-here : (p : ℕ → Bool) (a n k : ℕ) → a ≤ k → k < a + n → p k ≡ true → list_any p (range_with_len a n) ≡ true
any-here p a zero k low high h = absurd (omega (arith, low, high))
any-here p a (suc n) k low high h = by (p a) refl (λ later. any-here p (a + 1) n k later (omega (arith, high)) h)
  where
    behind : ¬ (a ≡ k) → a + 1 ≤ k
    behind apart = omega (arith, apart, low)

    by : (b : Bool) → p a ≡ b → (a + 1 ≤ k → list_any p (range_with_len (a + 1) n) ≡ true) → (p a || list_any p (range_with_len (a + 1) n)) ≡ true
    by true e rest = ap (λ (b : Bool). b || list_any p (range_with_len (a + 1) n)) e
    by false e rest =
        ap (λ (b : Bool). b || list_any p (range_with_len (a + 1) n)) e ∙ rest (behind (λ same. true≢false (sym h ∙ (ap p (sym same) ∙ e))))

or-rest : (b c d : Bool) → (c ≡ true → d ≡ true) → (b || c) ≡ true → (b || d) ≡ true
or-rest true c d give h = refl
or-rest false c d give h = give h

any-mapped : {A : Type 0} (p : A → Bool) (f : ℕ → A) (xs : List ℕ) → list_any (λ x. p (f x)) xs ≡ true → list_any p (map f xs) ≡ true
any-mapped p f [] h = h
any-mapped p f (x ∷ xs) h = or-rest (p (f x)) (list_any (λ y. p (f y)) xs) (list_any p (map f xs)) (any-mapped p f xs) h

any-flat : {A : Type 0} (p : A → Bool) (f : ℕ → List A) (xs : List ℕ) → list_any (λ x. list_any p (f x)) xs ≡ true → list_any p (flat_map f xs) ≡ true
any-flat p f [] h = h
any-flat p f (x ∷ xs) h =
    list_any-append p (f x) (flat_map f xs) ∙ or-rest (list_any p (f x)) (list_any (λ y. list_any p (f y)) xs) (list_any p (flat_map f xs)) (any-flat p f xs) h

-- a test that all elements of a list pass
all-range : (p : ℕ → Bool) (a n : ℕ) → ((k : ℕ) → a ≤ k → k < a + n → p k ≡ true) → list_all p (range_with_len a n) ≡ true
all-range p a zero h = refl
all-range p a (suc n) h = and_from (p a) (list_all p (range_with_len (a + 1) n)) (h a (omega arith) (omega arith)) (all-range p (a + 1) n (λ k low high. h k (omega (arith, low)) (omega (arith, high))))

all-mapped : {A : Type 0} (p : A → Bool) (f : ℕ → A) (xs : List ℕ) → list_all (λ x. p (f x)) xs ≡ true → list_all p (map f xs) ≡ true
all-mapped p f [] h = refl
all-mapped p f (x ∷ xs) h =
    let parts = and_parts (p (f x)) (list_all (λ y. p (f y)) xs) h in
    and_from (p (f x)) (list_all p (map f xs)) parts.0 (all-mapped p f xs parts.1)

all-flat : {A : Type 0} (p : A → Bool) (f : ℕ → List A) (xs : List ℕ) → list_all (λ x. list_all p (f x)) xs ≡ true → list_all p (flat_map f xs) ≡ true
all-flat p f [] h = refl
all-flat p f (x ∷ xs) h =
    let parts = and_parts (list_all p (f x)) (list_all (λ y. list_all p (f y)) xs) h in
    list_all-append p (f x) (flat_map f xs) ∙ and_from (list_all p (f x)) (list_all p (flat_map f xs)) parts.0 (all-flat p f xs parts.1)

-- the only element that passes is the one that is found
find-only : {A : Type 0} (p good : A → Bool) (x : A) → ((y : A) → good y ≡ true → p y ≡ true → y ≡ x) → (xs : List A) → list_all good xs ≡ true → list_any p xs ≡ true → find p xs ≡ Some x
find-only p good x only [] all any = absurd (true≢false (sym any))
find-only p good x only (y ∷ ys) all any =
    let parts = and_parts (good y) (list_all good ys) all in
    by (p y) refl (only y parts.0) (find-only p good x only ys parts.1) any
  where
    by : (b : Bool) → p y ≡ b → (p y ≡ true → y ≡ x) → (list_any p ys ≡ true → find p ys ≡ Some x) → (b || list_any p ys) ≡ true → cond b (Some y) (find p ys) ≡ Some x
    by true e here rest any = ap Some (here e)
    by false e here rest any = rest any

-- the parts of a day of the calendar
pub record IsInCalendar (x : Day) : Type 0 where
  pub first-year : 1 ≤ x.year
  pub last-year : x.year ≤ 9999
  pub first-month : 1 ≤ x.month
  pub last-month : x.month ≤ 12
  pub first-day : 1 ≤ x.day
  pub last-day : x.day ≤ days_in_month (pos x.year) x.month

pub in-calendar : (x : Day) → is_day x ≡ true → IsInCalendar x
in-calendar x h =
    let parts = and_parts (nat_le 1 x.year && nat_le x.year 9999) ((nat_le 1 x.month && nat_le x.month 12) && (nat_le 1 x.day && nat_le x.day (days_in_month (pos x.year) x.month))) h in
    let years = and_parts (nat_le 1 x.year) (nat_le x.year 9999) parts.0 in
    let rest = and_parts (nat_le 1 x.month && nat_le x.month 12) (nat_le 1 x.day && nat_le x.day (days_in_month (pos x.year) x.month)) parts.1 in
    let months = and_parts (nat_le 1 x.month) (nat_le x.month 12) rest.0 in
    let days = and_parts (nat_le 1 x.day) (nat_le x.day (days_in_month (pos x.year) x.month)) rest.1 in
    record {
      first-year = leb-true 1 x.year years.0;
      last-year = leb-true x.year 9999 years.1;
      first-month = leb-true 1 x.month months.0;
      last-month = leb-true x.month 12 months.1;
      first-day = leb-true 1 x.day days.0;
      last-day = leb-true x.day (days_in_month (pos x.year) x.month) days.1;
    }

pub from-parts : (x : Day) → IsInCalendar x → is_day x ≡ true
from-parts x h =
    and_from (nat_le 1 x.year && nat_le x.year 9999) _ (and_from (nat_le 1 x.year) (nat_le x.year 9999) (le-leb 1 x.year h.first-year) (le-leb x.year 9999 h.last-year))
    (and_from (nat_le 1 x.month && nat_le x.month 12) _ (and_from (nat_le 1 x.month) (nat_le x.month 12) (le-leb 1 x.month h.first-month) (le-leb x.month 12 h.last-month))
    (and_from (nat_le 1 x.day) (nat_le x.day (days_in_month (pos x.year) x.month)) (le-leb 1 x.day h.first-day) (le-leb x.day (days_in_month (pos x.year) x.month) h.last-day)))

-- the days that are listed are those of the calendar
all-are-days : list_all is_day all_days ≡ true
unfolding all_days
all-are-days =
    all-flat is_day days_of_year (range_with_len 1 9999) (all-range (λ y. list_all is_day (days_of_year y)) 1 9999 (λ y y-low y-high.
    all-flat is_day (days_of_month y) (range_with_len 1 12) (all-range (λ m. list_all is_day (days_of_month y m)) 1 12 (λ m m-low m-high.
    all-mapped is_day (day_with y m) (range_with_len 1 (days_in_month (pos y) m)) (all-range (λ d. is_day (day_with y m d)) 1 (days_in_month (pos y) m) (λ d d-low d-high.
    from-parts (day_with y m d) (record {
      first-year = y-low;
      last-year = omega (arith, y-high);
      first-month = m-low;
      last-month = omega (arith, m-high);
      first-day = d-low;
      last-day = omega (arith, d-high);
    })))))))

any-day : (p : Day → Bool) (x : Day) → is_day x ≡ true → p x ≡ true → list_any p all_days ≡ true
unfolding all_days
any-day p x day h =
    let parts = in-calendar x day in
    any-flat p days_of_year (range_with_len 1 9999) (any-here (λ y. list_any p (days_of_year y)) 1 9999 x.year parts.first-year (omega (arith, parts.last-year))
    (any-flat p (days_of_month x.year) (range_with_len 1 12) (any-here (λ m. list_any p (days_of_month x.year m)) 1 12 x.month parts.first-month (omega (arith, parts.last-month))
    (any-mapped p (day_with x.year x.month) (range_with_len 1 (days_in_month (pos x.year) x.month))
    (any-here (λ d. p (day_with x.year x.month d)) 1 (days_in_month (pos x.year) x.month) x.day parts.first-day (omega (arith, parts.last-day)) h)))))

-- the date of the kit for a day
date-of : (x : Day) → IsInCalendar x → Date
date-of x h = record {
  year = pos x.year;
  month = x.month;
  day = x.day;
  year_in = (omega (arith, ints), omega (arith, ints, h.last-year));
  month_in = (h.first-month, h.last-month);
  day_in = (h.first-day, h.last-day);
}

-- two days with one number are one
pub same-day : (x y : Day) → is_day x ≡ true → is_day y ≡ true → day_number x ≡ day_number y → x ≡ y
unfolding date-of
same-day x y dx dy same =
    let one : days_from_civil (pos x.year) x.month x.day ≡ days_from_civil (pos y.year) y.month y.day = omega (arith, ints, same) in
    let parts = epoch_day_injective (date-of x (in-calendar x dx)) (date-of y (in-calendar y dy)) one in
    let year : x.year ≡ y.year = omega (arith, ints, parts.0) in
    ap (λ (k : ℕ). day_with k x.month x.day) year ∙ (ap (λ (k : ℕ). day_with y.year k x.day) parts.1 ∙ ap (day_with y.year y.month) parts.2)

eq-true : (m n : ℤ) → int_eq m n ≡ true → m ≡ n
eq-true m n h = grind (arith, ints)

eq-refl : (n : ℤ) → int_eq n n ≡ true
eq-refl n = grind (arith, ints)

-- the day that has a number is found by it
pub numbered : (x : Day) (n : ℤ) → is_day x ≡ true → day_number x ≡ n → day_numbered n ≡ Some x
unfolding day_numbered
numbered x n day is =
    find-only (λ y. int_eq (day_number y) n) is_day x (λ y dy e. same-day y x dy day (eq-true (day_number y) n e ∙ sym is)) all_days all-are-days
    (any-day (λ y. int_eq (day_number y) n) x day (subst (λ (k : ℤ). int_eq k n ≡ true) (sym is) (eq-refl n)))

-- the ends of a range
pub at-least : (low n high : ℤ) → (is_le (int_cmp low n) && is_le (int_cmp n high)) ≡ true → (low ≤ℤ n) × (n ≤ℤ high)
at-least low n high h =
    let parts = and_parts (is_le (int_cmp low n)) (is_le (int_cmp n high)) h in
    (le-from low n parts.0, le-from n high parts.1)
  where
    le-from : (a b : ℤ) → is_le (int_cmp a b) ≡ true → a ≤ℤ b
    le-from a b h = grind (arith, ints)

pub first-count : day_count (pos 1) 1 1 ≡ 3_652_791
first-count = day_count-early (pos 1) 10000 1 1 refl (omega arith) (omega arith) (omega arith)

-- a date whose number is that of a day from 0001-01-01 on is of the year 1 or later
pub year-from-one : (d : Date) (n : ℤ) → neg_ℤ (pos 730_119) ≤ℤ n → epoch_day d ≡ n +ℤ pos 10957 → pos 1 ≤ℤ d.year
year-from-one d n low is = by_lt_z d.year (pos 1)
    (λ lt. absurd (omega (arith, signed_arith, days_from_civil-day_count d.year d.month d.day, first-count, low, is, day_count-lt_year d.year d.month d.day (pos 1) 1 1 (civil d) (omega arith) lt)))
    (λ ge. ge)

-- the day of the date with a number
pub dated : (d : Date) (n m : ℤ) (y : ℕ) → is_date_number n ≡ true → epoch_day d ≡ m → m ≡ n +ℤ pos 10957 → y ≡ unsigned_abs d.year → day_numbered n ≡ Some (day_with y d.month d.day)
dated d n m y range is-m is-n is-y =
    let ends = at-least (neg_ℤ (pos 730_119)) n (pos 2_921_939) range in
    let one = year-from-one d n ends.0 (is-m ∙ is-n) in
    let year : pos y ≡ d.year = omega (arith, signed_arith, one, is-y, one_part d.year) in
    let first : 1 ≤ y = omega (arith, signed_arith, one, year) in
    let last : y ≤ 9999 = omega (arith, signed_arith, d.year_in.1, year) in
    let day : is_day (day_with y d.month d.day) ≡ true = from-parts (day_with y d.month d.day) (record {
      first-year = first;
      last-year = last;
      first-month = d.month_in.0;
      last-month = d.month_in.1;
      first-day = d.day_in.0;
      last-day = subst (λ (z : ℤ). d.day ≤ days_in_month z d.month) (sym year) d.day_in.1;
    }) in
    let less : days_from_civil d.year d.month d.day -ℤ pos 10957 ≡ n = omega (arith, signed_arith, is-m, is-n) in
    numbered (day_with y d.month d.day) n day (ap (λ (z : ℤ). days_from_civil z d.month d.day -ℤ pos 10957) year ∙ less)

-- a number of a day has room where it is counted from 1970 on
pub shifted : (n k : ℤ) → is_date_number n ≡ true → k ≡ pos 10957 → to_z w64 (of_z w64 (to_z w64 (of_z w64 n) +ℤ to_z w64 (of_z w64 k))) ≡ n +ℤ pos 10957
shifted n k range is =
    let ends = at-least (neg_ℤ (pos 730_119)) n (pos 2_921_939) range in
    let small : unsigned_abs n < 9_223_372_036_854_775_808 = omega (arith, signed_arith, ends.0, ends.1, one_part n) in
    let room : unsigned_abs (n +ℤ pos 10957) < 9_223_372_036_854_775_808 = omega (arith, signed_arith, ends.0, ends.1, one_part n, one_part (n +ℤ pos 10957)) in
    ap₂ (λ (x y : ℤ). to_z w64 (of_z w64 (x +ℤ y))) (back_small w64 n small) (ap (λ (z : ℤ). to_z w64 (of_z w64 z)) is) ∙ back_small w64 (n +ℤ pos 10957) room

pub year-is : (d : Date) (y : ℕ) → y ≡ unsigned_abs (to_z w16 (of_z w16 d.year)) → y ≡ unsigned_abs d.year
year-is d y is =
    let small : unsigned_abs d.year < 32768 = omega (arith, signed_arith, d.year_in.0, d.year_in.1, one_part d.year) in
    is ∙ ap unsigned_abs (back_small w16 d.year small)

-- The text of a date is read back: each number in range is a day's, and its figures are those of its parts.
use Rattle.std.proofs.Common.{◌≡◌, ℕ, zero, suc, ◌+◌, ◌-◌, ◌/◌, ◌<◌, inl, inr, Bool, true, List, [], ◌++◌, take, refl, sym, ap, ap₂, subst, ◌∙◌, arith, ℤ, pos, negsuc, neg_ℤ, ◌-ℤ◌, ◌≤ℤ◌, Some, Ok}
use Rattle.std.proofs.lemmas.Bool.{and_from, cases_order}
use Rattle.std.proofs.lemmas.Int.{ints}
use Rattle.std.proofs.lemmas.List.{append-nil}
use Rattle.jiff_core.specs.Calendar.{day_count, days_in_month}
use Rattle.jiff_core.proofs.CalendarLemmas.{day_count-day, day_count-end, day_count-last_of_year, day_count-next_month, day_count-next_year, days_from_civil-day_count, days_in_month_bounds}
use Rattle.jiff_core.proofs.SignedLemmas.{signed_arith}
use Rattle.civil.specs.Days.{Day, day_number, day_with, is_date_number, is_day}
use Rattle.civil.specs.Forms.{has_form, number_at}
use Rattle.civil.specs.Shown.{date_text_of, day_text, figures}
use Rattle.civil.specs.Times.{date_value, day_in, formed, is_date_text, ranged}
use Rattle.civil.proofs.FigureLemmas.{figure-digit, figures-of}
use Rattle.civil.proofs.NumberedLemmas.{IsInCalendar, at-least, first-count, from-parts, in-calendar, numbered}

-- the day with this many days of the calendar before it
pub record IsDayAfter (k : ℕ) (x : Day) : Type 0 where
  pub there : IsInCalendar x
  pub count : day_count (pos x.year) x.month x.day ≡ 3_652_791 + k

record HasDayAfter (k : ℕ) : Type 0 where
  day : Day
  after : IsDayAfter k day

-- the next day of the month, the first of the next month, and of the next year
next-day : (k : ℕ) (x : Day) → IsDayAfter k x → x.day < days_in_month (pos x.year) x.month → HasDayAfter (suc k)
next-day k x h less = record {
  day = day_with x.year x.month (x.day + 1);
  after = record {
    there = record {
      first-year = h.there.first-year;
      last-year = h.there.last-year;
      first-month = h.there.first-month;
      last-month = h.there.last-month;
      first-day = omega arith;
      last-day = omega (arith, less);
    };
    count = omega (arith, h.count, day_count-day (pos x.year) x.month x.day (x.day + 1) h.there.first-day (omega arith));
  };
}

next-month : (k : ℕ) (x : Day) → IsDayAfter k x → x.day ≡ days_in_month (pos x.year) x.month → x.month < 12 → HasDayAfter (suc k)
next-month k x h full less = record {
  day = day_with x.year (x.month + 1) 1;
  after = record {
    there = record {
      first-year = h.there.first-year;
      last-year = h.there.last-year;
      first-month = omega arith;
      last-month = omega (arith, less);
      first-day = omega arith;
      last-day = omega (arith, (days_in_month_bounds (pos x.year) (x.month + 1)).1);
    };
    count = omega (arith, h.count, full, day_count-next_month (pos x.year) x.month h.there.first-month, day_count-day (pos x.year) x.month x.day 1 h.there.first-day (omega arith));
  };
}

last-of-year : (k : ℕ) (x : Day) → IsDayAfter k x → x.day ≡ days_in_month (pos x.year) x.month → x.month ≡ 12 → day_count (pos x.year) 12 31 ≡ 3_652_791 + k
last-of-year k x h full last =
    let day : x.day ≡ 31 = full ∙ ap (days_in_month (pos x.year)) last in
    sym (ap₂ (day_count (pos x.year)) last day) ∙ h.count

next-year : (k : ℕ) (x : Day) → IsDayAfter k x → day_count (pos x.year) 12 31 ≡ 3_652_791 + k → x.year < 9999 → HasDayAfter (suc k)
next-year k x h last less = record {
  day = day_with (x.year + 1) 1 1;
  after = record {
    there = record {
      first-year = omega arith;
      last-year = omega (arith, less);
      first-month = omega arith;
      last-month = omega arith;
      first-day = omega arith;
      last-day = omega (arith, (days_in_month_bounds (pos (x.year + 1)) 1).1);
    };
    count = omega (arith, last, day_count-last_of_year (pos x.year), day_count-next_year (pos x.year) (pos (x.year + 1)) (omega (arith, ints)) (omega (arith, ints)));
  };
}

last-day : (k : ℕ) (x : Day) → day_count (pos x.year) 12 31 ≡ 3_652_791 + k → x.year ≡ 9999 → k ≡ 3_652_058
last-day k x last end =
    let there : day_count (pos 9999) 12 31 ≡ 3_652_791 + k = subst (λ (y : ℕ). day_count (pos y) 12 31 ≡ 3_652_791 + k) end last in
    omega (arith, there, day_count-last_of_year (pos 9999), day_count-next_year (pos 9999) (pos 10000) (omega (arith, ints)) refl, day_count-end)

next : (k : ℕ) → suc k < 3_652_059 → HasDayAfter k → HasDayAfter (suc k)
next k few h = elim (cases_order h.day.day (days_in_month (pos h.day.year) h.day.month)) [
  | inr (inl less) ↦ next-day k h.day h.after less
  | inr (inr more) ↦ absurd (omega (arith, more, h.after.there.last-day))
  | inl full ↦ elim (cases_order h.day.month 12) [
    | inr (inl less) ↦ next-month k h.day h.after full less
    | inr (inr more) ↦ absurd (omega (arith, more, h.after.there.last-month))
    | inl december ↦ elim (cases_order h.day.year 9999) [
      | inr (inl less) ↦ next-year k h.day h.after (last-of-year k h.day h.after full december) less
      | inr (inr more) ↦ absurd (omega (arith, more, h.after.there.last-year))
      | inl end ↦ absurd (omega (arith, few, last-day k h.day (last-of-year k h.day h.after full december) end))
    ]
  ]
]

day-after : (k : ℕ) → k < 3_652_059 → HasDayAfter k
day-after zero few = record {
  day = day_with 1 1 1;
  after = record {
    there = record { first-year = omega arith; last-year = omega arith; first-month = omega arith; last-month = omega arith; first-day = omega arith; last-day = omega arith };
    count = first-count;
  };
}
day-after (suc k) few = next k few (day-after k (omega (arith, few)))

-- each number in range is a day's
pub record HasNumber (n : ℤ) (x : Day) : Type 0 where
  pub there : is_day x ≡ true
  pub number : day_number x ≡ n

pub record HasDay (n : ℤ) : Type 0 where
  pub day : Day
  pub has : HasNumber n day

pub day-there : (n : ℤ) → is_date_number n ≡ true → HasDay n
day-there n range =
    let ends = at-least (neg_ℤ (pos 730_119)) n (pos 2_921_939) range in
    by (place n ends.0 ends.1)
  where
    Placed : Type 0
    Placed = (k : ℕ) × (k < 3_652_059) × (n ≡ pos k -ℤ pos 730_119)

    place : (m : ℤ) → neg_ℤ (pos 730_119) ≤ℤ m → m ≤ℤ pos 2_921_939 → (k : ℕ) × (k < 3_652_059) × (m ≡ pos k -ℤ pos 730_119)
    place (pos j) low high = (j + 730_119, omega (arith, ints, high), omega (arith, ints))
    place (negsuc j) low high = (730_118 - j, omega (arith, ints, low), omega (arith, ints, low))

    by : (k : ℕ) × (k < 3_652_059) × (n ≡ pos k -ℤ pos 730_119) → HasDay n
    by (k, few, is) =
        let found = day-after k few in
        record {
          day = found.day;
          has = record {
            there = from-parts found.day found.after.there;
            number = omega (arith, signed_arith, is, found.after.count, days_from_civil-day_count (pos found.day.year) found.day.month found.day.day);
          };
        }

-- the text of a day, and what stands behind it
abbrev pub text_of : Day → List ℕ → List ℕ
text_of x rest = day_text (Some x) ++ rest

-- the text of a day has the form of a date, and its figures are those of the day
pub text-form : (x : Day) (rest : List ℕ) → is_date_text (take 10 (text_of x rest)) ≡ true
unfolding figures has_form
text-form x rest =
    and_from _ _ (figure-digit (x.year / 10 / 10 / 10)) (and_from _ _ (figure-digit (x.year / 10 / 10)) (and_from _ _ (figure-digit (x.year / 10)) (and_from _ _ (figure-digit x.year)
    (and_from _ _ (figure-digit (x.month / 10)) (and_from _ _ (figure-digit x.month) (and_from _ _ (figure-digit (x.day / 10)) (and_from _ _ (figure-digit x.day) refl)))))))

pub text-day : (x : Day) (rest : List ℕ) → IsInCalendar x → day_in (text_of x rest) ≡ x
unfolding figures
text-day x rest h =
    let year : number_at 0 4 (text_of x rest) ≡ x.year = figures-of 4 x.year (omega (arith, h.last-year)) in
    let month : number_at 5 2 (text_of x rest) ≡ x.month = figures-of 2 x.month (omega (arith, h.last-month)) in
    let day : number_at 8 2 (text_of x rest) ≡ x.day = figures-of 2 x.day (omega (arith, h.last-day, (days_in_month_bounds (pos x.year) x.month).0)) in
    ap (λ (k : ℕ). day_with k (number_at 5 2 (text_of x rest)) (number_at 8 2 (text_of x rest))) year
    ∙ (ap (λ (k : ℕ). day_with x.year k (number_at 8 2 (text_of x rest))) month ∙ ap (day_with x.year x.month) day)

-- the text of a date spells it
pub date-back : (n : ℤ) → is_date_number n ≡ true → date_value (date_text_of n) ≡ Ok n
unfolding figures has_form
date-back n range = by (day-there n range)
  where
    by : HasDay n → date_value (date_text_of n) ≡ Ok n
    by h =
        let text : date_text_of n ≡ text_of h.day [] = ap day_text (numbered h.day n h.has.there h.has.number) ∙ sym (append-nil (day_text (Some h.day))) in
        let form : is_date_text (text_of h.day []) ≡ true = text-form h.day [] in
        let same : day_in (text_of h.day []) ≡ h.day = text-day h.day [] (in-calendar h.day h.has.there) in
        ap date_value text ∙ (ap₂ (λ (b : Bool) (x : Day). formed b (ranged (is_day x) (day_number x))) form same
        ∙ (ap (λ (b : Bool). ranged b (day_number h.day)) h.has.there ∙ ap Ok h.has.number))

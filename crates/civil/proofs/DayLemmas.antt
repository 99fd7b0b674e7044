-- The days of the calendar are the dates of the kit from the year 1 on.
use Rattle.std.proofs.Common.{◌≡◌, ℕ, ◌≤◌, Bool, true, cond, ◌&&◌, refl, sym, ap, ◌∙◌, arith, ℤ, pos, ◌-ℤ◌, Some, None, subst, List, take, drop, le_of_eq, take-take, take_all, w32, to_z, of_z}
use Rattle.std.specs.Prelude.{nat_le, codes}
use Rattle.std.specs.Char.{is_ascii_digit}
use Rattle.std.specs.List.{list_all}
use Rattle.std.proofs.lemmas.List.{drop-take}
use Rattle.std.proofs.lemmas.Bool.{and_from, le-leb}
use Rattle.std.proofs.lemmas.Int.{ints, to_z-of_z}
use Rattle.jiff_core.specs.declared.civil.date.Date.{Date}
use Rattle.jiff_core.specs.Calendar.{IsDate, IsEpochDay, days_from_civil, days_in_month}
use Rattle.jiff_core.specs.Date.{epoch_day, IsYmd}
use Rattle.civil.specs.Days.{day_with, is_day, day_number}
use Rattle.civil.specs.work.Days.{number_of_day}
use Rattle.civil.specs.Times.{is_date_text}
use Rattle.civil.proofs.FormLemmas.{digits-at, form-length}

pub there : (y m d : ℕ) → 1 ≤ y → IsDate (pos y) (pos m) (pos d) → is_day (day_with y m d) ≡ true
there y m d some h =
    let year : y ≤ 9999 = omega (arith, ints, h.0.1) in
    let month : 1 ≤ m = omega (arith, ints, h.1.0) in
    let month-end : m ≤ 12 = omega (arith, ints, h.1.1) in
    let day : 1 ≤ d = omega (arith, ints, h.2.0) in
    let day-end : d ≤ days_in_month (pos y) m = omega (arith, ints, h.2.1) in
    and_from (nat_le 1 y && nat_le y 9999) _ (and_from (nat_le 1 y) (nat_le y 9999) (le-leb 1 y some) (le-leb y 9999 year))
    (and_from (nat_le 1 m && nat_le m 12) _ (and_from (nat_le 1 m) (nat_le m 12) (le-leb 1 m month) (le-leb m 12 month-end))
    (and_from (nat_le 1 d) (nat_le d (days_in_month (pos y) m)) (le-leb 1 d day) (le-leb d (days_in_month (pos y) m) day-end)))

-- the date of these parts has the day's number
pub found : (y m d : ℕ) (year month day : ℤ) (date : Date) (n : ℤ) → year ≡ pos y → month ≡ pos m → day ≡ pos d → 1 ≤ y →
    IsDate year month day → IsYmd year month day date → n ≡ epoch_day date -ℤ pos 10957 → Some n ≡ number_of_day (day_with y m d)
found y m d year month day date n is-y is-m is-d some has parts value =
    let in-calendar : IsDate (pos y) (pos m) (pos d) =
    subst (λ (z : ℤ). IsDate z (pos m) (pos d)) is-y (subst (λ (z : ℤ). IsDate year z (pos d)) is-m (subst (λ (z : ℤ). IsDate year month z) is-d has)) in
    let same-month : date.month ≡ m = omega (arith, ints, parts.1, is-m) in
    let same-day : date.day ≡ d = omega (arith, ints, parts.2, is-d) in
    let same : n ≡ day_number (day_with y m d) = value ∙ (ap (λ (k : ℤ). days_from_civil k date.month date.day -ℤ pos 10957) (parts.0 ∙ is-y)
    ∙ (ap (λ (k : ℕ). days_from_civil (pos y) k date.day -ℤ pos 10957) same-month ∙ ap (λ (k : ℕ). days_from_civil (pos y) m k -ℤ pos 10957) same-day)) in
    ap Some same ∙ sym (ap (λ (b : Bool). cond b (Some (day_number (day_with y m d))) None) (there y m d some in-calendar))

-- a number of a date has room as it is computed
pub wrapped : (r : ℤ) → IsEpochDay r → to_z w32 (of_z w32 (to_z w32 (of_z w32 r) -ℤ pos 10957)) ≡ r -ℤ pos 10957
wrapped r h = grind (arith, ints, to_z-of_z)

-- the text of a date is its first ten bytes
pub ten-bytes : (text : List ℕ) → is_date_text text ≡ true → is_date_text (take 10 text) ≡ true
ten-bytes text h = subst (λ (t : List ℕ). is_date_text t ≡ true) (sym (take_all 10 text (le_of_eq (sym (form-length (codes "DDDD-DD-DD") text h))))) h

-- where a text begins with a date, its parts are digits
pub date-digits : (text : List ℕ) → is_date_text (take 10 text) ≡ true →
    (list_all is_ascii_digit (take 4 text) ≡ true) × (list_all is_ascii_digit (take 2 (drop 5 text)) ≡ true) × (list_all is_ascii_digit (take 2 (drop 8 text)) ≡ true)
date-digits text h = (
  subst (λ (t : List ℕ). list_all is_ascii_digit t ≡ true) (take-take 4 10 text (omega arith)) (digits-at 0 4 (codes "DDDD-DD-DD") (take 10 text) h refl),
  subst (λ (t : List ℕ). list_all is_ascii_digit t ≡ true) (ap (take 2) (drop-take 5 5 text) ∙ take-take 2 5 (drop 5 text) (omega arith)) (digits-at 5 2 (codes "DDDD-DD-DD") (take 10 text) h refl),
  subst (λ (t : List ℕ). list_all is_ascii_digit t ≡ true) (ap (take 2) (drop-take 8 2 text) ∙ take-take 2 2 (drop 8 text) (omega arith)) (digits-at 8 2 (codes "DDDD-DD-DD") (take 10 text) h refl),
)

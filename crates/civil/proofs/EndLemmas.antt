-- The texts at the ends of the ranges and about the epoch, and that two values have two texts.
use Rattle.std.proofs.Common.{◌≡◌, ℕ, true, List, ◌++◌, refl, sym, ap, ◌∙◌, arith, ℤ, pos, neg_ℤ, Ok, Result}
use Rattle.std.specs.Prelude.{codes}
use Rattle.std.proofs.lemmas.Fmt.{decimal_digit}
use Rattle.std.proofs.lemmas.Int.{ints}
use Rattle.jiff_core.proofs.CalendarLemmas.{day_count-last_of_year, day_count-next_year, days_from_civil-day_count}
use Rattle.jiff_core.proofs.DateLemmas.{days_from_civil-max}
use Rattle.jiff_core.proofs.SignedLemmas.{signed_arith}
use Rattle.jiff_core.proofs.StandardFacts.{known_days}
use Rattle.civil.specs.declared.unread.Unread.{Unread}
use Rattle.civil.specs.Days.{day_number, day_with, is_date_number}
use Rattle.civil.specs.Numerics.{is_numeric_number, numeric_value}
use Rattle.civil.specs.Shown.{date_text_of, day_text, figures, numeric_text_of, short_figures, timestamp_text_of, timestamptz_text_of}
use Rattle.civil.specs.Times.{date_value, is_instant, timestamp_value, timestamptz_value}
use Rattle.civil.proofs.DateTextLemmas.{date-back}
use Rattle.civil.proofs.NumberedLemmas.{first-count, numbered}
use Rattle.civil.proofs.NumericTextLemmas.{numeric-back}
use Rattle.civil.proofs.TimeTextLemmas.{timestamp-back, timestamptz-back}

-- the days at the ends, and those before and at the epoch
first-number : day_number (day_with 1 1 1) ≡ neg_ℤ (pos 730_119)
first-number = omega (arith, signed_arith, days_from_civil-day_count (pos 1) 1 1, first-count)

last-number : day_number (day_with 9999 12 31) ≡ pos 2_921_939
last-number = omega (arith, signed_arith, days_from_civil-max)

epoch-number : day_number (day_with 2000 1 1) ≡ pos 0
epoch-number = omega (arith, signed_arith, known_days.2)

before-number : day_number (day_with 1999 12 31) ≡ neg_ℤ (pos 1)
before-number =
    omega (arith, signed_arith, known_days.2, days_from_civil-day_count (pos 1999) 12 31, days_from_civil-day_count (pos 2000) 1 1, day_count-last_of_year (pos 1999), day_count-next_year (pos 1999) (pos 2000) (omega (arith, ints)) refl)

pub first-date : date_text_of (neg_ℤ (pos 730_119)) ≡ codes "0001-01-01"
unfolding figures
first-date = ap day_text (numbered (day_with 1 1 1) (neg_ℤ (pos 730_119)) refl first-number)

pub last-date : date_text_of (pos 2_921_939) ≡ codes "9999-12-31"
unfolding figures
last-date = ap day_text (numbered (day_with 9999 12 31) (pos 2_921_939) refl last-number)

pub epoch-date : date_text_of (pos 0) ≡ codes "2000-01-01"
unfolding figures
epoch-date = ap day_text (numbered (day_with 2000 1 1) (pos 0) refl epoch-number)

before-date : date_text_of (neg_ℤ (pos 1)) ≡ codes "1999-12-31"
unfolding figures
before-date = ap day_text (numbered (day_with 1999 12 31) (neg_ℤ (pos 1)) refl before-number)

pub first-instant : timestamp_text_of (neg_ℤ (pos 63_082_281_600_000_000)) ≡ codes "0001-01-01 00:00:00"
unfolding figures
first-instant = ap (λ (t : List ℕ). t ++ codes " 00:00:00") first-date

pub last-instant : timestamp_text_of (pos 252_455_615_999_999_999) ≡ codes "9999-12-31 23:59:59.999999"
unfolding figures short_figures
last-instant = ap (λ (t : List ℕ). t ++ codes " 23:59:59.999999") last-date

pub before-epoch : timestamptz_text_of (neg_ℤ (pos 500_000)) ≡ codes "1999-12-31 23:59:59.5+00"
unfolding figures short_figures
before-epoch = ap (λ (t : List ℕ). (t ++ codes " 23:59:59.5") ++ codes "+00") before-date

pub small-numeric : numeric_text_of 2 (neg_ℤ (pos 5)) ≡ codes "-0.05"
unfolding figures
small-numeric = ap (λ (ds : List ℕ). codes "-" ++ (ds ++ codes ".05")) (decimal_digit 0 (omega arith))

-- what is read back tells two values apart
same : (read : List ℕ → Result ℤ Unread) (text : ℤ → List ℕ) (m n : ℤ) → read (text m) ≡ Ok m → read (text n) ≡ Ok n → text m ≡ text n → m ≡ n
same read text m n back-m back-n is =
    let both : Ok m ≡ Ok n = sym back-m ∙ (ap read is ∙ back-n) in
    cc

pub date-apart : (m n : ℤ) → is_date_number m ≡ true → is_date_number n ≡ true → date_text_of m ≡ date_text_of n → m ≡ n
date-apart m n in-m in-n = same date_value date_text_of m n (date-back m in-m) (date-back n in-n)

pub timestamp-apart : (m n : ℤ) → is_instant m ≡ true → is_instant n ≡ true → timestamp_text_of m ≡ timestamp_text_of n → m ≡ n
timestamp-apart m n in-m in-n = same timestamp_value timestamp_text_of m n (timestamp-back m in-m) (timestamp-back n in-n)

pub timestamptz-apart : (m n : ℤ) → is_instant m ≡ true → is_instant n ≡ true → timestamptz_text_of m ≡ timestamptz_text_of n → m ≡ n
timestamptz-apart m n in-m in-n = same timestamptz_value timestamptz_text_of m n (timestamptz-back m in-m) (timestamptz-back n in-n)

pub numeric-apart : (digits scale : ℕ) (m n : ℤ) → is_numeric_number digits scale m ≡ true → is_numeric_number digits scale n ≡ true → numeric_text_of scale m ≡ numeric_text_of scale n → m ≡ n
numeric-apart digits scale m n in-m in-n = same (numeric_value digits scale) (numeric_text_of scale) m n (numeric-back digits scale m in-m) (numeric-back digits scale n in-n)

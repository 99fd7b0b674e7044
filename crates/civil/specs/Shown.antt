-- The texts of dates, timestamps and numerics (PostgreSQL manual, Date/Time Output, style ISO, zone UTC, and Arbitrary Precision Numbers).
use Rattle.std.specs.Prelude.{ℕ, zero, suc, ◌+◌, ◌/◌, ◌%◌, ◌^◌, cond, nat_eq, List, [], ◌∷◌, ◌++◌, codes, ℤ, pos, unsigned_abs, Option, Some, None}
use Rattle.std.specs.Fmt.{decimal}
use Rattle.std.specs.Int.{int_rem_euclid, int_div_euclid}
use Rattle.civil.specs.Days.{Day, day_numbered}
use Rattle.civil.specs.Times.{day_micros}

-- the last so many decimal digits of a number, with zeros before it
unfoldable pub figures : ℕ → ℕ → List ℕ
figures zero n = []
figures (suc k) n = figures k (n / 10) ++ (48 + n % 10) ∷ []

-- the last so many decimal digits of a number, without the zeros at their end
unfoldable pub short_figures : ℕ → ℕ → List ℕ
short_figures zero n = []
short_figures (suc k) n = cond (nat_eq (n % 10) 0) (short_figures k (n / 10)) (figures (suc k) n)

-- the text of a day
abbrev pub day_text : Option Day → List ℕ
day_text None = []
day_text (Some x) = figures 4 x.year ++ (codes "-" ++ (figures 2 x.month ++ (codes "-" ++ figures 2 x.day)))

-- the text of a date
abbrev pub date_text_of : ℤ → List ℕ
date_text_of n = day_text (day_numbered n)

-- a point and the fraction of a second, or nothing where there is none
abbrev pub fraction_text : ℕ → List ℕ
fraction_text n = cond (nat_eq n 0) [] (codes "." ++ short_figures 6 n)

-- the text of a time, by its microseconds from midnight on
abbrev pub time_text : ℕ → List ℕ
time_text n = figures 2 (n / 3_600_000_000) ++ (codes ":" ++ (figures 2 (n / 60_000_000 % 60) ++ (codes ":" ++ (figures 2 (n / 1_000_000 % 60) ++ fraction_text (n % 1_000_000)))))

-- the text of a timestamp
abbrev pub timestamp_text_of : ℤ → List ℕ
timestamp_text_of n = date_text_of (int_div_euclid n day_micros) ++ (codes " " ++ time_text (unsigned_abs (int_rem_euclid n day_micros)))

-- the text of a timestamp with time zone
abbrev pub timestamptz_text_of : ℤ → List ℕ
timestamptz_text_of n = timestamp_text_of n ++ codes "+00"

-- the text of a number without its sign
abbrev pub size_text : ℕ → ℕ → List ℕ
size_text scale n = decimal (n / 10 ^ scale) ++ cond (nat_eq scale 0) [] (codes "." ++ figures scale n)

-- a minus where a number is below 0
abbrev pub minus_text : ℤ → List ℕ
minus_text (pos n) = []
minus_text _ = codes "-"

-- the text of a numeric
abbrev pub numeric_text_of : ℕ → ℤ → List ℕ
numeric_text_of scale n = minus_text n ++ size_text scale (unsigned_abs n)

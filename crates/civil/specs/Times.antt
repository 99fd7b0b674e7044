-- What texts of dates, timestamps and timestamps with time zone spell (PostgreSQL manual, Date/Time Input; the forms are some of PostgreSQL's, the years 1 to 9999, own).
use Rattle.std.specs.Prelude.{ℕ, ◌+◌, ◌*◌, ◌&&◌, ◌||◌, Bool, true, false, nat_eq, nat_le, List, [], ◌∷◌, codes, take, drop, ℤ, pos, neg_ℤ, ◌+ℤ◌, ◌-ℤ◌, ◌*ℤ◌, Result, Ok, Err}
use Rattle.std.specs.Char.{is_ascii_digit}
use Rattle.std.specs.List.{prefix_len}
use Rattle.std.specs.Ordering.{int_cmp, is_le}
use Rattle.std.specs.Str.Parse.{starts_with_minus}
use Rattle.civil.specs.Days.{Day, day_with, is_day, day_number}
use Rattle.civil.specs.Forms.{fraction, has_form, has_a_form, number_at, signed}
use Rattle.civil.specs.declared.unread.Unread.{Unread}
use Rattle.civil.specs.declared.unread.Unread.TheVariants.{Form, Range}

-- what a text that has its form spells: a value where it is in range
abbrev pub ranged : Bool → ℤ → Result ℤ Unread
ranged true n = Ok n
ranged false n = Err Range

-- what a text spells where it has its form, and that it does not have it
abbrev pub formed : Bool → Result ℤ Unread → Result ℤ Unread
formed true r = r
formed false r = Err Form

-- the day that a text of the form DDDD-DD-DD begins with
abbrev pub day_in : List ℕ → Day
day_in text = day_with (number_at 0 4 text) (number_at 5 2 text) (number_at 8 2 text)

-- a text of ten bytes is a date's
abbrev pub is_date_text : List ℕ → Bool
is_date_text = has_form (codes "DDDD-DD-DD")

-- a date: its day's number
abbrev pub date_value : List ℕ → Result ℤ Unread
date_value text = formed (is_date_text text) (ranged (is_day (day_in text)) (day_number (day_in text)))

-- the forms of a time with a fraction of a second
abbrev pub fraction_forms : List (List ℕ)
fraction_forms = codes "DD:DD:DD.D" ∷ codes "DD:DD:DD.DD" ∷ codes "DD:DD:DD.DDD" ∷ codes "DD:DD:DD.DDDD" ∷ codes "DD:DD:DD.DDDDD" ∷ codes "DD:DD:DD.DDDDDD" ∷ []

-- the forms of a time
abbrev pub time_forms : List (List ℕ)
time_forms = codes "DD:DD" ∷ codes "DD:DD:DD" ∷ fraction_forms

-- a clock shows a time: hours to 23, minutes and seconds to 59; what is left out is 0
abbrev pub is_clock : List ℕ → Bool
is_clock time = nat_le (number_at 0 2 time) 23 && (nat_le (number_at 3 2 time) 59 && nat_le (number_at 6 2 time) 59)

-- the microseconds from midnight on
abbrev pub clock_micros : List ℕ → ℕ
clock_micros time = ((number_at 0 2 time * 60 + number_at 3 2 time) * 60 + number_at 6 2 time) * 1_000_000 + fraction 6 (drop 9 time)

-- the microseconds of a day
abbrev pub day_micros : ℤ
day_micros = pos 86_400_000_000

-- a byte between a date and a time: a space or T
abbrev pub is_between : ℕ → Bool
is_between c = nat_eq c 32 || nat_eq c 84

-- what stands behind the date of a timestamp: nothing, or a space or T and a time
abbrev pub is_time_part : List ℕ → Bool
is_time_part [] = true
is_time_part (c ∷ time) = is_between c && has_a_form time_forms time

-- a text is a timestamp's: a date, and behind it nothing or a time
abbrev pub is_timestamp_text : List ℕ → Bool
is_timestamp_text text = is_date_text (take 10 text) && is_time_part (drop 10 text)

-- the calendar has the day of a timestamp's text, and a clock shows its time
abbrev pub is_moment : List ℕ → Bool
is_moment text = is_day (day_in text) && is_clock (drop 11 text)

-- the microseconds of the day and the time of a timestamp's text from 2000-01-01 00:00:00 on
abbrev pub moment : List ℕ → ℤ
moment text = day_number (day_in text) *ℤ day_micros +ℤ pos (clock_micros (drop 11 text))

-- a timestamp
abbrev pub timestamp_value : List ℕ → Result ℤ Unread
timestamp_value text = formed (is_timestamp_text text) (ranged (is_moment text) (moment text))

-- the forms of an offset behind a time: nothing is +00, as Z
abbrev pub offset_forms : List (List ℕ)
offset_forms = [] ∷ codes "Z" ∷ codes "+DD" ∷ codes "-DD" ∷ codes "+DD:DD" ∷ codes "-DD:DD" ∷ []

-- an offset is in range: hours to 15, minutes to 59
abbrev pub is_offset : List ℕ → Bool
is_offset o = nat_le (number_at 1 2 o) 15 && nat_le (number_at 4 2 o) 59

-- the microseconds of an offset from UTC
abbrev pub offset_micros : List ℕ → ℤ
offset_micros o = signed (starts_with_minus o) ((number_at 1 2 o * 60 + number_at 4 2 o) * 60_000_000)

-- the bytes of a time: digits, colons and a point
abbrev pub is_of_time : ℕ → Bool
is_of_time c = is_ascii_digit c || (nat_eq c 58 || nat_eq c 46)

-- where an offset begins: behind the bytes of the time, and at the end of a text that has none
abbrev pub offset_place : List ℕ → ℕ
offset_place text = 11 + prefix_len is_of_time (drop 11 text)

-- a text without its offset
abbrev pub without_offset : List ℕ → List ℕ
without_offset text = take (offset_place text) text

-- the offset of a text
abbrev pub offset_of : List ℕ → List ℕ
offset_of text = drop (offset_place text) text

-- the instant of a timestamp and an offset: the clock's time less the offset
abbrev pub instant : List ℕ → List ℕ → ℤ
instant clock offset = moment clock -ℤ offset_micros offset

-- a number of microseconds is a value: from 0001-01-01 00:00:00 to 9999-12-31 23:59:59.999999
abbrev pub is_instant : ℤ → Bool
is_instant n = is_le (int_cmp (neg_ℤ (pos 63_082_281_600_000_000)) n) && is_le (int_cmp n (pos 252_455_615_999_999_999))

-- the parts of a timestamp with time zone are in range, and so is its instant
abbrev pub has_instant : List ℕ → List ℕ → Bool
has_instant clock offset = is_moment clock && (is_offset offset && is_instant (instant clock offset))

-- what the text of a timestamp and that of an offset spell
abbrev pub instant_value : List ℕ → List ℕ → Result ℤ Unread
instant_value clock offset =
    formed (is_timestamp_text clock && has_a_form offset_forms offset) (ranged (has_instant clock offset) (instant clock offset))

-- a timestamp with time zone
abbrev pub timestamptz_value : List ℕ → Result ℤ Unread
timestamptz_value text = instant_value (without_offset text) (offset_of text)

-- Working words beside those of `Days`.
use Rattle.std.specs.Prelude.{cond, ℤ, Option, Some, None}
use Rattle.civil.specs.Days.{Day, is_day, day_number}

-- the number of a day that the calendar has, or none
abbrev pub number_of_day : Day → Option ℤ
number_of_day x = cond (is_day x) (Some (day_number x)) None

-- Working words beside those of `Runs`.
use Rattle.std.specs.Prelude.{ℕ, min, Option, Some, None}

-- the lesser of a number that may be missing and another
abbrev pub lesser_with : Option ℕ → ℕ → ℕ
lesser_with None n = n
lesser_with (Some m) n = min m n

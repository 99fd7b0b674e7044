-- The least price of some paths, where it is found. Own.
use Rattle.std.specs.Prelude.{◌≤◌, ℕ, None, Option, Some}
use Rattle.planner.specs.declared.finishing.Least.{Least}

-- there is one, and it is no greater than another
abbrev pub IsUnder : Option Least → ℕ → Type 0
IsUnder None n = ⊥
IsUnder (Some least) n = least.price ≤ n

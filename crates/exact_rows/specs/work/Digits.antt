-- Numbers as digits. Own.
use Rattle.std.specs.Prelude.{ℕ, ◌+◌, ◌*◌, ◌<◌, ◌≤◌, ◌≡◌, List, [], ◌∷◌, All, drop, length}
use Rattle.exact_rows.specs.declared.digits.TheConstants.{BASE, DIGITS}

-- the number that digits stand for, the lowest first
abbrev pub number : List ℕ → ℕ
number [] = 0
number (d ∷ ds) = d + BASE * number ds

-- there are so many digits, each below the base, and those from a place on are 0
pub record AreDigits (len : ℕ) (ds : List ℕ) : Type 0 where
  pub long : length ds ≡ DIGITS
  pub below : All (λ d. d < BASE) ds
  pub within : len ≤ DIGITS
  pub rest : number (drop len ds) ≡ 0

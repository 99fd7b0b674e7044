-- Working words beside those of `Powers`.
use Rattle.std.specs.Prelude.{ℕ, ◌^◌, ◌<◌, ◌≤◌}

-- k is the least power to which b is at least n
pub record IsLeastPower (b n k : ℕ) : Type 0 where
  pub reached : n ≤ b ^ k
  pub least : (j : ℕ) → j < k → b ^ j < n

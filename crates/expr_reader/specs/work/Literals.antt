-- Working words beside those of `Literals`.
use Rattle.std.specs.Prelude.{◌≡◌, ℕ, ◌-◌, ◌^◌, min}

-- where a number is read so, as itself or as 2^64 - 1 where it is more, this holds of it
abbrev pub IfCapped : ℕ → (ℕ → Type 0) → Type 0
IfCapped magnitude P = (n : ℕ) → magnitude ≡ min n (2 ^ 64 - 1) → P n

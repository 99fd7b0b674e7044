-- Numbers of rows that are not cut. Own.
use Rattle.std.specs.Prelude.{ℕ, ◌*◌, max}
use Rattle.std.specs.Int.{div_ceil}
use Rattle.exact_rows.specs.declared.digits.TheConstants.{BASE}

-- what a share of some rows leaves, in parts of 10^9, rounded up: one row at least
abbrev pub share_kept : ℕ → ℕ → ℕ
share_kept n share = max 1 (div_ceil (n * share) BASE)

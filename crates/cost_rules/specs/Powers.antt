-- Powers that reach a number, and numbers of rows cut to what is estimated. Own.
use Rattle.std.specs.Prelude.{ℕ, zero, suc, ◌+◌, ◌^◌, min, max, true, false, nat_le}
use Rattle.cost_rules.specs.declared.parameters.TheConstants.{MOST_ESTIMATE}

-- the first power from k on to which b is at least n, with so many steps left
abbrev pub power_from : ℕ → ℕ → ℕ → ℕ → ℕ
power_from b n zero k = k
power_from b n (suc left) k = elim (nat_le n (b ^ k)) [ true ↦ k | false ↦ power_from b n left (k + 1) ]

-- the least power to which b, at least 2, is at least n
abbrev pub log_up : ℕ → ℕ → ℕ
log_up b n = power_from b n n 0

-- a number of rows from 1 to 10^12
abbrev pub clamped : ℕ → ℕ
clamped n = max 1 (min n MOST_ESTIMATE)

-- Working words beside those of `Costs`.
use Rattle.std.specs.Prelude.{ℕ, ◌≤◌, min}
use Rattle.cost_rules.specs.declared.pair.Pair.{Pair}
use Rattle.cost_rules.specs.declared.parameters.TheConstants.{MOST_COST, MOST_ESTIMATE}
use Rattle.cost_rules.specs.Costs.{pair}

-- neither number is above the other's
pub record IsAtMost (a b : Pair) : Type 0 where
  pub startup : a.startup ≤ b.startup
  pub total : a.total ≤ b.total

-- a cost that was cut: no more before the first row than in all, and at most 10^18
pub record IsCost (p : Pair) : Type 0 where
  pub startup : p.startup ≤ p.total
  pub most : p.total ≤ MOST_COST

-- a number of rows that is estimated: 1 to 10^12
pub record IsEstimate (n : ℕ) : Type 0 where
  pub some : 1 ≤ n
  pub most : n ≤ MOST_ESTIMATE

-- a cost cut to at most 10^18
abbrev pub capped : ℕ → ℕ
capped n = min n MOST_COST

-- a cost of which both numbers are cut to at most 10^18
abbrev pub capped_pair : Pair → Pair
capped_pair p = pair (capped p.startup) (capped p.total)

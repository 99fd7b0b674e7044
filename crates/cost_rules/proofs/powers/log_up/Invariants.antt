use Rattle.std.specs.Prelude.{◌≡◌, ◌<◌, ◌-◌, ◌^◌, ℕ}
use Rattle.cost_rules.proofs.powers.log_up.Given as goal

-- `power` is `base` to `k`, and no lower power reaches `n`
abbrev pub invariant-loop-power : goal.invariant-loop-power
invariant-loop-power l = (l.power ≡ l.base ^ l.k) × (l.k < l.power) × ((j : ℕ) → j < l.k → l.base ^ j < l.n)

abbrev pub decreases-loop-power : goal.decreases-loop-power
decreases-loop-power l = l.n - l.power

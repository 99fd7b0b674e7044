-- Costs of sorts and joins, before the first row and in all (PostgreSQL manual, Using EXPLAIN; the rules are own). They
-- are exact: no number is cut.
use Rattle.std.specs.Prelude.{ℕ, ◌+◌, ◌*◌, ◌-◌, max}
use Rattle.std.specs.Int.{div_ceil}
use Rattle.cost_rules.specs.declared.pair.Pair.{Pair}
use Rattle.cost_rules.specs.declared.parameters.TheConstants.{OPERATOR, TUPLE}
use Rattle.cost_rules.specs.Powers.{log_up}

-- what is spent before the first row, and in all, in 1/400 of a sequential page
abbrev pub pair : ℕ → ℕ → Pair
pair startup total = record { startup = startup; total = total }

-- a row with so many operators
abbrev pub row_cost : ℕ → ℕ
row_cost ops = TUPLE + ops * OPERATOR

-- the comparisons of a sort of n rows: two for each row and doubling
abbrev pub sort_work : ℕ → ℕ
sort_work n = 2 * n * log_up 2 (max n 2)

-- a sort of n rows: all of its input and the comparisons, then each row
abbrev pub sort_cost : Pair → ℕ → Pair
sort_cost input n = pair (input.total + sort_work n) (input.total + sort_work n + n)

-- a nested loop: the inner side once for each outer row, and each pair of rows with the operators of the join
abbrev pub nest_cost : Pair → Pair → ℕ → ℕ → ℕ → Pair
nest_cost outer inner ro ri ops = pair (outer.startup + inner.startup) (outer.total + ro * inner.total + ro * ri * row_cost ops)

-- a merge by k keys: both sides once, each outer row and twice each inner row with the keys, and each pair of rows with
-- equal keys with the other operators
abbrev pub merge_cost : Pair → Pair → ℕ → ℕ → ℕ → ℕ → ℕ → Pair
merge_cost outer inner ro ri k pairs ops =
    pair (outer.startup + inner.startup) (outer.total + inner.total + (ro + 2 * ri) * (k * OPERATOR) + pairs * row_cost ops)

-- what the first rows cost: the startup, and an even part of the rest for so many of n rows, rounded up
abbrev pub price_of : Pair → ℕ → ℕ → ℕ
price_of p asked n = p.startup + div_ceil ((p.total - p.startup) * asked) n

-- What plans that group cost, in 1/400 of a sequential page (PostgreSQL, src/backend/optimizer/path/costsize.c, cost_agg; the
-- rules are own). They are exact: no number is cut.
use Rattle.std.specs.Prelude.{ℕ, ◌+◌, ◌*◌, Bool, cond, List, [], ◌∷◌, min}
use Rattle.cost_rules.specs.Costs.{pair, sort_cost}
use Rattle.cost_rules.specs.declared.parameters.TheConstants.{OPERATOR, TUPLE}
use Rattle.group_values.specs.declared.form.Form.{Form}
use Rattle.group_values.specs.declared.form.Form.TheVariants.{Sorted, Hashed}

-- how many lists there are of one value of each column, where the columns have so many different ones
abbrev pub combinations : List ℕ → ℕ
combinations [] = 1
combinations (n ∷ ns) = n * combinations ns

-- how many groups there are taken to be among so many rows, by how many different values each group key has: as many as lists
-- of different values, one of each key, but no more than rows
abbrev pub estimated_groups : ℕ → List ℕ → ℕ
estimated_groups rows values = min rows (combinations values)

-- the tests that a row takes: each key against the group's and each call, and where groups are hashed each key's hash besides
abbrev pub row_tests : Form → ℕ → ℕ → ℕ
row_tests Sorted keys calls = keys + calls
row_tests Hashed keys calls = 2 * keys + calls

-- what the node that groups costs with its input: an input of this total, its rows with so many tests each, and each group
abbrev pub grouped_cost : ℕ → ℕ → ℕ → ℕ → ℕ
grouped_cost input rows tests groups = input + rows * tests * OPERATOR + groups * TUPLE

-- what a plan that groups costs in all, by the cost of its node that groups: with a sort of so many groups on top, where there
-- is one
abbrev pub whole_cost : Bool → ℕ → ℕ → ℕ
whole_cost sorted cost groups = cond sorted (sort_cost (pair 0 cost) groups).total cost

-- What may be wrong with a plan that is written down with numbers. Own.
use Rattle.std.specs.Prelude.{◌≡◌, ◌≢◌, ◌<◌, ◌≤◌, ◌+◌, ◌⊎◌, ℕ, Bool, true, false, List, get_or, take}
use Rattle.catalog.specs.Contents.{Contents}
use Rattle.cost_rules.specs.declared.parameters.TheConstants.{MOST_COST}
use Rattle.sql_query.specs.Queries.{Query}
use Rattle.plan_tree.specs.Plans.{Plan, seq, index, index_only, bitmap, sort, nest, merge}
use Rattle.plan_tree.specs.Costs.{cost}
use Rattle.plan_tree.specs.Least.{IsAdmissible}
use Rattle.plan_tree.specs.Space.{IsBuilt, IsFinished}
use Rattle.plan_space.specs.Numbered.{CostAndRows, line_count, lines_from, nodes, own_numbers}
use Rattle.plan_space.specs.declared.judged.Judged.{Judged}
use Rattle.plan_space.specs.declared.judged.Judged.TheVariants.{Good, Outside, Limit, Number}

-- a plan without the sorts on its top
abbrev pub unsorted : Plan → Plan
unsorted (sort keys input) = unsorted input
unsorted p = p

-- the cost of a pair is another than the own one, or the cost is the own one and the rows are others
abbrev pub IsWrongPair : Bool → CostAndRows → CostAndRows → ℕ → ℕ → Type 0
IsWrongPair true pair own printed is = (printed ≡ pair.0) × (is ≡ own.0) × (printed ≢ is)
IsWrongPair false pair own printed is = (pair.0 ≡ own.0) × (printed ≡ pair.1) × (is ≡ own.1) × (printed ≢ is)

module _ (c : Contents) (q : Query) where
  -- a join that is no plan of the space while both its sides are, but for the sorts on top of them; sorts count as part of the
  -- node above them
  pub record IsBadJoin (join outer inner : Plan) : Type 0 where
    pub outer_built : IsBuilt c q (unsorted outer)
    pub inner_built : IsBuilt c q (unsorted inner)
    pub bad : ¬ IsBuilt c q join

  -- the first such node stands in a line, where the first line of the plan has a number: the nodes are taken with children
  -- before parents and outer sides before inner ones, and a scan is one by itself
  abbrev pub IsOutside : ℕ → Plan → ℕ → Type 0
  IsOutside at (seq r) line = (¬ IsBuilt c q (seq r)) × (line ≡ at)
  IsOutside at (index r i backward p) line = (¬ IsBuilt c q (index r i backward p)) × (line ≡ at)
  IsOutside at (index_only r i backward p) line = (¬ IsBuilt c q (index_only r i backward p)) × (line ≡ at)
  IsOutside at (bitmap r p bits) line = (¬ IsBuilt c q (bitmap r p bits)) × (line ≡ at)
  IsOutside at (sort keys input) line = IsOutside (at + 1) input line
  IsOutside at (nest outer inner) line =
      IsOutside (at + 1) outer line ⊎ ((IsBuilt c q (unsorted outer) × IsOutside (at + 1 + line_count outer) inner line) ⊎ (IsBadJoin (nest outer inner) outer inner × (line ≡ at)))
  IsOutside at (merge keys outer inner) line =
      IsOutside (at + 1) outer line ⊎ ((IsBuilt c q (unsorted outer) × IsOutside (at + 1 + line_count outer) inner line) ⊎ (IsBadJoin (merge keys outer inner) outer inner × (line ≡ at)))

  -- a plan is not finished by a line: that of the first node that is none, or line 1 where all are but the whole is not
  -- finished
  abbrev pub IsUnfinished : Plan → ℕ → Type 0
  IsUnfinished p line = IsOutside 1 p line ⊎ (IsBuilt c q (unsorted p) × (¬ IsFinished c q p) × (line ≡ 1))

  -- the first node with a wrong number, from the top: its line, whether the cost is wrong or the rows are, the number that is
  -- written and the node's own
  pub record IsWrongNumber (p : Plan) (ns : List CostAndRows) (line : ℕ) (is_cost : Bool) (printed own : ℕ) : Type 0 where
    pub node : ℕ
    pub within : node < nodes p
    pub before : take node ns ≡ take node (own_numbers c q p)
    pub line_is : line ≡ get_or (lines_from 1 p) node 0
    pub wrong : IsWrongPair is_cost (get_or ns node (0, 0)) (get_or (own_numbers c q p) node (0, 0)) printed own

  -- a finished plan below the limit with its own numbers
  pub record IsGood (p : Plan) (ns : List CostAndRows) : Type 0 where
    pub finished : IsFinished c q p
    pub admissible : IsAdmissible c q p
    pub numbers : ns ≡ own_numbers c q p

  -- the causes of each answer, which shut each other out: no finished plan, one at the limit or past it, one below it with a
  -- wrong number, and a good one
  abbrev pub IsJudged : Plan → List CostAndRows → Judged → Type 0
  IsJudged p ns Good = IsGood p ns
  IsJudged p ns (Outside line) = IsUnfinished p line
  IsJudged p ns Limit = IsFinished c q p × (MOST_COST ≤ (cost c q p).total)
  IsJudged p ns (Number line is_cost printed own) = IsFinished c q p × IsAdmissible c q p × IsWrongNumber p ns line is_cost printed own

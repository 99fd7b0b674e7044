-- A node of a plan, found in a plan within it. Own.
use Rattle.std.specs.Prelude.{◌≡◌, ◌<◌, ◌≤◌, ◌+◌, ℕ, get_or}
use Rattle.catalog.specs.Contents.{Contents}
use Rattle.sql_query.specs.Queries.{Query}
use Rattle.plan_tree.specs.Plans.{Plan}
use Rattle.plan_tree.specs.work.Costable.{IsCostable}
use Rattle.plan_tree.specs.work.Costs.{HaveRows}
use Rattle.plan_tree.specs.Least.{IsAdmissible}
use Rattle.plan_space.specs.Numbered.{line_count, lines_from, nodes, own_numbers}
use Rattle.plan_tree.specs.work.Views.{plan}
use Rattle.plan_space.specs.declared.own.Part.{Part}

-- the node at a place of one plan, whose first line has a number, is that at a place of another; what the one needs to have
-- costs, the other has too
pub record IsPart (c : Contents) (q : Query) (p : Plan) (at place : ℕ) (x : Plan) (from n : ℕ) : Type 0 where
  pub within : n < nodes x
  pub few : from + line_count x ≤ at + line_count p
  pub line : get_or (lines_from from x) n 0 ≡ get_or (lines_from at p) place 0
  pub own : get_or (own_numbers c q x) n (0, 0) ≡ get_or (own_numbers c q p) place (0, 0)
  pub costable : IsCostable c q p → IsCostable c q x
  pub admissible : HaveRows c q → IsAdmissible c q p → IsAdmissible c q x

-- the node at a place of one plan is that of a part, over every catalogue and query
abbrev pub IsFoundIn : Plan → ℕ → ℕ → Part → Type 0
IsFoundIn p at place part = (c : Contents) (q : Query) → IsPart c q p at place (plan part.plan.now) part.at part.place

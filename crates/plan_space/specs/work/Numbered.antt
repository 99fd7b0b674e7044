-- Working words beside those of `Numbered`.
use Rattle.std.specs.Prelude.{ℕ, get_or}
use Rattle.catalog.specs.Contents.{Contents}
use Rattle.sql_query.specs.Queries.{Query}
use Rattle.plan_tree.specs.Plans.{Plan}
use Rattle.plan_space.specs.Numbered.{CostAndRows, own_numbers}

-- the numbers of the node at a place, from 0, the root first
abbrev pub own_numbers_at : Contents → Query → Plan → ℕ → CostAndRows
own_numbers_at c q p place = get_or (own_numbers c q p) place (0, 0)

-- What a plan is computed by as a side of a join. Own.
use Rattle.std.specs.Prelude.{◌≡◌, Bool}
use Rattle.pg_base.specs.Sets.{has}
use Rattle.catalog.specs.Contents.{Contents}
use Rattle.cost_rules.specs.work.Costs.{IsCost, IsEstimate, capped_pair}
use Rattle.sql_query.specs.Queries.{Query}
use Rattle.plan_tree.specs.Costs.{cost, estimate}
use Rattle.plan_tree.specs.work.Paths.{kept_cost}
use Rattle.plan_tree.specs.Plans.{Plan, param_of, set_of, merge, sort}
use Rattle.plan_tree.specs.Space.{IsSameSet, IsEmpty}
use Rattle.entry_check.specs.declared.work_parts.Part.{Part}
use Rattle.cost_rules.specs.declared.pair.Pair.{Pair}
use Rattle.pathkeys.specs.work.Finding.{class_numbers}
use Rattle.pathkeys.specs.Keys.{Keys}
use Rattle.plan_check.specs.work.Beating.{IsRight}
use Rattle.plan_check.specs.Certificates.{sorted_if}
use Rattle.plan_check.specs.work.Views.{entry}
use Rattle.plan_check.specs.declared.entry.Entry.{Entry as Entered}
use Rattle.entry_check.specs.work.Working.{IsMergeWork}
use Rattle.entry_check.specs.declared.merges.MergeWork.{MergeWork}

-- the numbers are within their ranges
pub record IsReckoned (x : Part) : Type 0 where
  pub cost : IsCost x.cost
  pub rows : IsEstimate x.rows

-- the plan has this set, this parameterisation, this cost as a path keeps it, cut to at most 10^18, and these rows
pub record IsPart (c : Contents) (q : Query) (x : Part) (p : Plan) : Type 0 where
  pub set : IsSameSet (set_of p) (has x.set.0)
  pub param : IsSameSet (param_of p) (has x.param.0)
  pub cost_is : x.cost ≡ capped_pair (kept_cost q.window (cost c q p))
  pub rows_are : x.rows ≡ estimate c q p

-- what a join of two plans costs as a path keeps it, from what the two are computed by
abbrev pub IsJoinCost : Contents → Query → Part → Part → (Plan → Plan → Plan) → Pair → Type 0
IsJoinCost c q outer inner join own =
    (o i : Plan) → IsPart c q outer o → IsPart c q inner i → own ≡ capped_pair (kept_cost q.window (cost c q (join o i)))

-- what a merge of two plans by a list costs as a path keeps it, from what the two are computed by and all merges by the list
-- have in common
abbrev pub IsMergeCost : Query → MergeWork → Part → Part → Pair → Type 0
IsMergeCost q work outer inner own =
    (c : Contents) (o i : Plan) → IsMergeWork c q work → IsPart c q outer o → IsPart c q inner i →
    own ≡ capped_pair (kept_cost q.window (cost c q (merge (class_numbers work.list.now) o i)))

-- what a right entry's plan is computed by
abbrev pub IsEntryPart : Contents → Query → Entered → Part → Type 0
IsEntryPart c q e x = (p : Plan) → IsRight c q (entry e) p → IsPart c q x p

-- what it is computed by, as it stands or sorted by any list
abbrev pub IsSidePart : Contents → Query → Entered → Bool → Part → Type 0
IsSidePart c q e sorts x = (keys : Keys) (p : Plan) → IsRight c q (entry e) p → IsPart c q x (sorted_if sorts keys p)

-- what the sorts of a plan that is given no rows are computed by, from what the plan is
abbrev pub IsSortedPart : Query → Part → Part → Type 0
IsSortedPart q x sorted =
    (c : Contents) (keys : Keys) (p : Plan) → IsPart c q x p → IsEmpty (param_of p) → IsPart c q sorted (sort keys p)

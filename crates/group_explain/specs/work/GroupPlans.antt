-- Working words beside those of `GroupPlans`: the numbers of a grouping as the code keeps them, and the plans that group by
-- them.
use Rattle.std.specs.Prelude.{◌≡◌, ℕ, ◌<◌, ◌≤◌, true, Option, Some, None}
use Rattle.catalog.specs.Contents.{Contents}
use Rattle.cost_rules.specs.declared.parameters.TheConstants.{MOST_COST}
use Rattle.pathkeys.specs.Keys.{Keys}
use Rattle.sql_query.specs.Queries.{Query}
use Rattle.plan_tree.specs.Costs.{cost, query_rows}
use Rattle.plan_tree.specs.Least.{IsAdmissible, IsBestPlan}
use Rattle.plan_tree.specs.work.Paths.{Path, IsFinishedPath}
use Rattle.plan_tree.specs.Plans.{Plan}
use Rattle.plan_tree.specs.Space.{IsFinished}
use Rattle.group_values.specs.declared.form.Form.{Form}
use Rattle.group_values.specs.declared.task.GroupPlan.{GroupPlan}
use Rattle.group_values.specs.declared.task.GroupTask.{GroupTask}
use Rattle.group_values.specs.work.Choice.{input_of}
use Rattle.group_values.specs.work.GroupCosts.{group_total, groups_of, is_offered, sorts_after}
use Rattle.group_explain.specs.GroupPlans.{GroupQuery, distinct_of_keys, group_keys, input_query, is_sorted_after, line_keys}

-- the numbers of a grouping are those of its query
pub record IsTaskOf (c : Contents) (g : GroupQuery) (t : GroupTask) : Type 0 where
  pub rows : t.rows ≡ query_rows c g.base
  pub distinct : t.distinct.items ≡ distinct_of_keys c g
  pub calls : t.calls ≡ g.calls
  pub sorts : (form : Form) → sorts_after form t ≡ is_sorted_after form g

-- what a plan costs in all, by the numbers of a grouping, that groups the tuples of another one
abbrev pub task_total : Contents → GroupQuery → GroupTask → Form → Plan → ℕ
task_total c g t form p = group_total form t (cost c (input_query form g) p).total

-- a plan that groups, by the numbers of a grouping
pub record IsTaskPlan (c : Contents) (g : GroupQuery) (t : GroupTask) (form : Form) (p : Plan) : Type 0 where
  pub offered : is_offered form t ≡ true
  pub input : IsFinished c (input_query form g) p
  pub admissible : task_total c g t form p < MOST_COST

-- a plan that groups with its cost and its groups, by the numbers of a grouping, and no plan that groups costs less
pub record IsLeastOfTask (c : Contents) (g : GroupQuery) (t : GroupTask) (chosen : GroupPlan) : Type 0 where
  pub plan : Plan
  pub is : IsTaskPlan c g t chosen.form plan
  pub cost : chosen.cost ≡ task_total c g t chosen.form plan
  pub sort_after : chosen.sort_after ≡ is_sorted_after chosen.form g
  pub rows : chosen.rows ≡ groups_of t
  pub least : (form : Form) (other : Plan) → IsTaskPlan c g t form other → chosen.cost ≤ task_total c g t form other

-- the keys and the calls are those of a grouped query
pub record IsAskedBy (g : GroupQuery) (of_groups of_lines : Keys) (number : ℕ) : Type 0 where
  pub groups : of_groups ≡ group_keys g
  pub lines : of_lines ≡ line_keys g
  pub calls : number ≡ g.calls

-- the best plan of a query, none where no finished one is admissible
abbrev pub IsBestOf : Contents → Query → Option Path → Type 0
IsBestOf c q None = (p : Plan) → IsFinished c q p → ¬ IsAdmissible c q p
IsBestOf c q (Some best) = IsFinishedPath c q best × IsBestPlan c q best.tree

-- the numbers of a query without a window, and its best plans in no order and in the order of the group keys
pub record AreInputs (c : Contents) (g : GroupQuery) (t : GroupTask) (plain sorted : Option Path) : Type 0 where
  pub whole : g.base.window ≡ None
  pub task : IsTaskOf c g t
  pub best : (form : Form) → IsBestOf c (input_query form g) (input_of form plain sorted)

-- the choice is the least plan that groups, by the numbers of a grouping, none exactly where there is none
abbrev pub IsLeastGroupPlan : Contents → GroupQuery → GroupTask → Option GroupPlan → Type 0
IsLeastGroupPlan c g t None = (form : Form) (p : Plan) → ¬ IsTaskPlan c g t form p
IsLeastGroupPlan c g t (Some chosen) = IsLeastOfTask c g t chosen

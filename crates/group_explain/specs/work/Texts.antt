-- Working words beside those of `Texts`: the text of a plan that groups by the numbers that the code keeps.
use Rattle.std.specs.Prelude.{ℕ, Bool, List, ◌++◌}
use Rattle.std.specs.Fmt.{decimal}
use Rattle.catalog.specs.Contents.{Contents}
use Rattle.plan_tree.specs.Costs.{cost}
use Rattle.plan_tree.specs.Plans.{Plan}
use Rattle.reply.specs.explain_Texts.{figures_text, text_at}
use Rattle.sql_query.specs.Grouped.{GroupedQuery}
use Rattle.group_values.specs.declared.form.Form.{Form}
use Rattle.group_values.specs.declared.task.GroupPlan.{GroupPlan}
use Rattle.group_values.specs.declared.task.GroupTask.{GroupTask}
use Rattle.group_values.specs.work.GroupCosts.{group_cost}
use Rattle.group_explain.specs.GroupPlans.{input_query}
use Rattle.group_explain.specs.Texts.{group_query, group_title, input_depth, lines_above}

module _ (c : Contents) (g : GroupedQuery) where
  -- what the line of the node that groups says, with a total
  abbrev pub titled_line : GroupPlan → ℕ → List ℕ
  titled_line chosen total = group_title c g chosen.form ++ figures_text (decimal total) chosen.rows

  -- the total of the input of a plan that groups
  abbrev pub input_total : Form → Plan → ℕ
  input_total form p = (cost c (input_query form (group_query g)) p).total

  -- the lines above the input, by the numbers of a grouping
  abbrev pub task_lines : GroupTask → GroupPlan → Plan → Bool → List ℕ
  task_lines t chosen p sort_after = lines_above c g chosen.form (group_cost chosen.form t (input_total chosen.form p)) chosen.cost chosen.rows sort_after

  -- the text of a plan that groups, by the numbers of a grouping
  abbrev pub task_text : GroupTask → GroupPlan → Plan → List ℕ
  task_text t chosen p = task_lines t chosen p chosen.sort_after ++ text_at c (input_query chosen.form (group_query g)) (input_depth chosen.sort_after) p

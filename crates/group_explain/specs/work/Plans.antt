-- Working words beside those of `Plans`.
use Rattle.std.specs.Prelude.{◌≡◌, ℕ, Bool, List, None}
use Rattle.catalog.specs.Contents.{Contents}
use Rattle.sql_query.specs.Grouped.{GroupedQuery}
use Rattle.sql_query.specs.Queries.{Query}
use Rattle.sql_query.specs.WellBound.{IsWellBound}
use Rattle.plan_tree.specs.work.Paths.{IsFinishedPath}
use Rattle.plan_tree.specs.work.Views.{path}
use Rattle.group_values.specs.declared.form.Form.{Form}
use Rattle.group_values.specs.work.GroupCosts.{IsTask}
use Rattle.group_explain.specs.GroupPlans.{input_query}
use Rattle.group_explain.specs.work.GroupPlans.{IsLeastOfTask, IsTaskOf}
use Rattle.group_explain.specs.Texts.{group_query}
use Rattle.group_explain.specs.work.Texts.{task_lines, task_text}
use Rattle.group_explain.specs.declared.chosen.Chosen.{Chosen}

-- a grouped query over another base
abbrev pub over_base : Query → GroupedQuery → GroupedQuery
over_base q g = record { base = q; keys = g.keys; items = g.items; order = g.order }

-- the base of a grouped query in the order that the input of a form is asked in
abbrev pub input_base : Form → GroupedQuery → Query
input_base form g = input_query form (group_query g)

-- a grouped query is the first one over the base in the order that the input of a form is asked in
abbrev pub IsOverInput : Form → (first now : GroupedQuery) → Type 0
IsOverInput form first now = now ≡ over_base (input_base form first) first

-- the lines above the input of the chosen plan
abbrev pub chosen_lines : Contents → GroupedQuery → Chosen → Bool → List ℕ
chosen_lines c g x sort_after = task_lines c g x.task x.plan (path x.input).tree sort_after

-- the text of the chosen plan
abbrev pub chosen_text : Contents → GroupedQuery → Chosen → List ℕ
chosen_text c g x = task_text c g x.task x.plan (path x.input).tree

-- a plan that groups with its own cost, which no plan that groups undercuts, and the path of its input
pub record IsChosen (c : Contents) (g : GroupedQuery) (x : Chosen) : Type 0 where
  pub task : IsTaskOf c (group_query g) x.task
  pub least : IsLeastOfTask c (group_query g) x.task x.plan
  pub input : least.plan ≡ (path x.input).tree
  pub finished : IsFinishedPath c (input_base x.plan.form g) (path x.input)

-- a grouped query and the plan chosen for it, with the base in the order that the chosen input is asked in
pub record IsReady (c : Contents) (g : GroupedQuery) (x : Chosen) : Type 0 where
  pub bound : IsWellBound c g.base
  pub whole : g.base.window ≡ None
  pub asked : g.base ≡ input_base x.plan.form g
  pub numbers : IsTask x.task
  pub chosen : IsChosen c g x

-- The costs in the text of a chosen plan.
use Rattle.std.proofs.Common.{◌≡◌, ℕ, ◌<◌, ◌≤◌, Bool, true, false, cond, sym, subst, ap, ◌∙◌, arith}
use Rattle.catalog.specs.Contents.{Contents}
use Rattle.cost_rules.specs.Costs.{pair, sort_cost}
use Rattle.cost_rules.specs.work.Costs.{capped}
use Rattle.cost_rules.specs.declared.parameters.TheConstants.{MOST_COST}
use Rattle.cost_rules.proofs.RisingLemmas.{sort-child}
use Rattle.sql_query.specs.Grouped.{GroupedQuery}
use Rattle.plan_tree.specs.Costs.{cost}
use Rattle.plan_tree.specs.Least.{IsAdmissible}
use Rattle.plan_tree.specs.work.Paths.{IsFinishedPath}
use Rattle.plan_tree.specs.Plans.{Plan}
use Rattle.plan_tree.specs.work.Views.{path}
use Rattle.group_values.specs.declared.form.Form.{Form}
use Rattle.group_values.specs.work.GroupCosts.{group_cost, group_total, groups_of, sorts_after}
use Rattle.group_values.specs.declared.task.GroupTask.{GroupTask}
use Rattle.group_values.proofs.CostLemmas.{total-input}
use Rattle.group_explain.specs.work.GroupPlans.{task_total}
use Rattle.group_explain.specs.work.Plans.{IsReady, input_base}
use Rattle.group_explain.specs.Texts.{group_query}
use Rattle.group_explain.specs.work.Texts.{input_total}
use Rattle.group_explain.specs.declared.chosen.Chosen.{Chosen}
use Rattle.group_values.proofs.CostLemmas.{child-by}

-- a sort of the groups on top costs no less
without-sort : (f : Form) (t : GroupTask) (a : ℕ) → group_cost f t a ≤ group_total f t a
without-sort f t a = child-by (sorts_after f t) (groups_of t) (group_cost f t a)

not-cut : (n : ℕ) → n < MOST_COST → capped n ≡ n
not-cut n lt = omega arith

module _ (c : Contents) (g : GroupedQuery) (x : Chosen) (ready : IsReady c g x) where
  abbrev tree : Plan
  tree = (path x.input).tree

  total-below : task_total c (group_query g) x.task x.plan.form tree < MOST_COST
  total-below = subst (λ p. task_total c (group_query g) x.task x.plan.form p < MOST_COST) ready.chosen.input ready.chosen.least.is.admissible

  -- the input costs less than 10^18
  input-below : IsAdmissible c (input_base x.plan.form g) tree
  input-below = omega (arith, total-below, total-input x.plan.form x.task (cost c (input_base x.plan.form g) tree).total)

  pub input-admissible : IsAdmissible c g.base tree
  input-admissible = subst (λ q. IsAdmissible c q tree) (sym ready.asked) input-below

  pub input-finished : IsFinishedPath c g.base (path x.input)
  input-finished = subst (λ q. IsFinishedPath c q (path x.input)) (sym ready.asked) ready.chosen.finished

  -- what the node that groups costs without the sort on top
  pub node-cost : (n : ℕ) → n ≡ capped (group_cost x.plan.form x.task x.input.cost) → n ≡ group_cost x.plan.form x.task (input_total c g x.plan.form tree)
  node-cost n e =
      let total : x.input.cost ≡ input_total c g x.plan.form tree = ready.chosen.finished.numbers.cost in
      let same = ap (λ a. group_cost x.plan.form x.task a) total in
      let below : group_cost x.plan.form x.task (input_total c g x.plan.form tree) < MOST_COST = omega (arith, total-below, without-sort x.plan.form x.task (input_total c g x.plan.form tree)) in
      e ∙ ap capped same ∙ not-cut (group_cost x.plan.form x.task (input_total c g x.plan.form tree)) below

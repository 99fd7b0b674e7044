-- What plans that group cost by the numbers of a task is what they cost by the query, and their texts are the same.
use Rattle.std.proofs.Common.{◌≡◌, ℕ, ◌<◌, ◌≤◌, Bool, List, ◌++◌, length, refl, sym, subst, ap, ap₂, ◌∙◌}
use Rattle.std.specs.Prelude.{nat_lt}
use Rattle.std.proofs.lemmas.List.{length-map}
use Rattle.catalog.specs.Contents.{Contents}
use Rattle.cost_rules.specs.declared.parameters.TheConstants.{MOST_COST}
use Rattle.plan_tree.specs.Costs.{cost, query_rows}
use Rattle.plan_tree.specs.Plans.{Plan}
use Rattle.reply.specs.explain_Texts.{text_at}
use Rattle.sql_query.specs.Grouped.{GroupedQuery}
use Rattle.sql_query.specs.Queries.{Query}
use Rattle.group_values.specs.declared.form.Form.{Form}
use Rattle.group_values.specs.declared.form.Form.TheVariants.{Sorted, Hashed}
use Rattle.group_values.specs.declared.task.GroupPlan.{GroupPlan}
use Rattle.group_values.specs.declared.task.GroupTask.{GroupTask}
use Rattle.group_values.specs.GroupCosts.{estimated_groups, grouped_cost, row_tests, whole_cost}
use Rattle.group_values.specs.work.GroupCosts.{group_cost, groups_of, is_offered}
use Rattle.group_explain.specs.GroupPlans.{GroupQuery, IsGroupPlan, IsLeastOf, can_group, distinct_of, group_keys, group_rows, input_query, is_sorted_after, node_total, plan_total}
use Rattle.group_explain.specs.work.GroupPlans.{IsLeastOfTask, IsTaskOf, IsTaskPlan, task_total}
use Rattle.group_explain.specs.Plans.{HasNoGroupPlan, IsGroupExplanation}
use Rattle.group_explain.specs.Texts.{group_plan_text, group_query, input_depth, lines_above}
use Rattle.group_explain.specs.work.Texts.{task_lines, task_text}

module _ (c : Contents) (g : GroupQuery) (t : GroupTask) (is : IsTaskOf c g t) where
  as-many : length t.distinct.items ≡ length (group_keys g)
  as-many = ap (λ (l : List ℕ). length l) is.distinct ∙ length-map (group_keys g) (distinct_of c g.base)

  groups-are : groups_of t ≡ group_rows c g
  groups-are = ap₂ (λ (rows : ℕ) (values : List ℕ). estimated_groups rows values) is.rows is.distinct

  can-group : (f : Form) → is_offered f t ≡ can_group f g
  can-group Sorted = refl
  can-group Hashed = ap (λ (n : ℕ). nat_lt 0 n) as-many

  tests-are : (f : Form) → row_tests f (length t.distinct.items) t.calls ≡ row_tests f (length (group_keys g)) g.calls
  tests-are f = ap₂ (λ (keys calls : ℕ). row_tests f keys calls) as-many is.calls

  node-over : (f : Form) (n : ℕ) → group_cost f t n ≡ grouped_cost n (query_rows c g.base) (row_tests f (length (group_keys g)) g.calls) (group_rows c g)
  node-over f n =
      ap₂ (λ (rows tests : ℕ). grouped_cost n rows tests (groups_of t)) is.rows (tests-are f)
      ∙ ap (λ (groups : ℕ). grouped_cost n (query_rows c g.base) (row_tests f (length (group_keys g)) g.calls) groups) groups-are

  node-is : (f : Form) (p : Plan) → group_cost f t (cost c (input_query f g) p).total ≡ node_total c g f p
  node-is f p = node-over f (cost c (input_query f g) p).total

  total-is : (f : Form) (p : Plan) → task_total c g t f p ≡ plan_total c g f p
  total-is f p =
      ap (λ (b : Bool). whole_cost b (group_cost f t (cost c (input_query f g) p).total) (groups_of t)) (is.sorts f)
      ∙ ap₂ (λ (node groups : ℕ). whole_cost (is_sorted_after f g) node groups) (node-is f p) groups-are

  -- the plans that group are the same ones
  plan-of : (f : Form) (p : Plan) → IsTaskPlan c g t f p → IsGroupPlan c g f p
  plan-of f p plan = record {
    offered = sym (can-group f) ∙ plan.offered;
    input = plan.input;
    admissible = subst (λ (m : ℕ). m < MOST_COST) (total-is f p) plan.admissible;
  }

  plan-by : (f : Form) (p : Plan) → IsGroupPlan c g f p → IsTaskPlan c g t f p
  plan-by f p plan = record {
    offered = can-group f ∙ plan.offered;
    input = plan.input;
    admissible = subst (λ (m : ℕ). m < MOST_COST) (sym (total-is f p)) plan.admissible;
  }

  -- the least one by the numbers of a task is the least one
  least-of : (x : GroupPlan) (least : IsLeastOfTask c g t x) → IsLeastOf c g x.form least.plan
  least-of x least = record {
    is = plan-of x.form least.plan least.is;
    least = λ f other plan.
        subst (λ (n : ℕ). n ≤ plan_total c g f other) (least.cost ∙ total-is x.form least.plan)
        (subst (λ (n : ℕ). x.cost ≤ n) (total-is f other) (least.least f other (plan-by f other plan)));
  }

-- where no plan groups by the numbers of a task, none groups
pub no-plan : (c : Contents) (g : GroupedQuery) (t : GroupTask) → IsTaskOf c (group_query g) t → ((f : Form) (p : Plan) → ¬ IsTaskPlan c (group_query g) t f p) → HasNoGroupPlan c g
no-plan c g t is none = λ f p plan. none f p (plan-by c (group_query g) t is f p plan)

module _ (c : Contents) (g : GroupedQuery) (t : GroupTask) (x : GroupPlan) (is : IsTaskOf c (group_query g) t) (least : IsLeastOfTask c (group_query g) t x) where
  abbrev input : Query
  input = input_query x.form (group_query g)

  abbrev sorted : Bool
  sorted = is_sorted_after x.form (group_query g)

  text-is : task_text c g t x least.plan ≡ group_plan_text c g x.form least.plan
  text-is =
      ap (λ (b : Bool). task_lines c g t x least.plan b ++ text_at c input (input_depth b) least.plan) least.sort_after
      ∙ ap (λ (l : List ℕ). l ++ text_at c input (input_depth sorted) least.plan)
      (ap₂ (λ (node total : ℕ). lines_above c g x.form node total x.rows sorted) (node-is c (group_query g) t is x.form least.plan) (least.cost ∙ total-is c (group_query g) t is x.form least.plan)
      ∙ ap (λ (n : ℕ). lines_above c g x.form (node_total c (group_query g) x.form least.plan) (plan_total c (group_query g) x.form least.plan) n sorted) (least.rows ∙ groups-are c (group_query g) t is))

  -- the text by the numbers of a task is that of a least plan that groups
  pub text-explains : IsGroupExplanation c g x.form least.plan (task_text c g t x least.plan)
  text-explains = record { least = least-of c (group_query g) t is x least; printed = text-is }

-- The plan chosen for a grouped query does not depend on the order that its base is in.
use Rattle.std.proofs.Common.{◌≡◌, ◌≤◌, ℕ, List, [], refl, sym, subst, ap, ◌∙◌}
use Rattle.std.specs.Prelude.{map, not, Option, Some, None}
use Rattle.catalog.specs.Contents.{Contents}
use Rattle.pg_expr.specs.declared.operand.ColRef.{ColRef}
use Rattle.eq_classes.specs.Clauses.{first_in}
use Rattle.eq_classes.specs.Listing.{class_at}
use Rattle.eq_classes.specs.declared.order.OrderItem.{OrderItem}
use Rattle.sql_query.specs.Grouped.{GroupedQuery}
use Rattle.sql_query.specs.Queries.{Query, all_of_query, in_order_of}
use Rattle.sql_query.specs.WellBound.{IsWellBound}
use Rattle.plan_tree.specs.work.Paths.{IsFinishedPath}
use Rattle.plan_tree.specs.Plans.{Plan}
use Rattle.plan_tree.specs.work.Views.{path}
use Rattle.group_values.specs.declared.form.Form.{Form}
use Rattle.group_values.specs.declared.form.Form.TheVariants.{Sorted, Hashed}
use Rattle.group_values.specs.work.GroupCosts.{IsTask, sorts_after}
use Rattle.group_values.specs.declared.task.GroupPlan.{GroupPlan}
use Rattle.group_values.specs.declared.task.GroupTask.{GroupTask}
use Rattle.pathkeys.specs.Keys.{covers}
use Rattle.group_explain.specs.GroupPlans.{distinct_in, distinct_of, form_keys, group_keys, input_query, line_keys}
use Rattle.group_explain.specs.work.GroupPlans.{IsLeastOfTask, IsTaskOf, IsTaskPlan, task_total}
use Rattle.group_query.specs.Grouping.{IsWellGrouped, group_items}
use Rattle.group_explain.specs.work.Plans.{IsChosen, IsReady, input_base, over_base}
use Rattle.group_explain.specs.Texts.{group_query}
use Rattle.group_explain.specs.declared.chosen.Chosen.{Chosen}

-- a query that is asked for in no order is so once more
pub no-order : (q : Query) → q.order ≡ [] → in_order_of q [] ≡ q
no-order q e = ap (λ (o : List OrderItem). in_order_of q o) (sym e)

-- the order that the input of a form is asked in
abbrev pub order_for : Form → GroupedQuery → List OrderItem
order_for Sorted g = group_items g.base.classes g.keys
order_for Hashed g = []

pub base-for : (f : Form) (g : GroupedQuery) → input_base f g ≡ in_order_of g.base (order_for f g)
base-for Sorted g = refl
base-for Hashed g = refl

module _ (c : Contents) (g : GroupedQuery) (o : List OrderItem) where
  -- a grouped query with its base in an order
  abbrev pub asked : GroupedQuery
  asked = over_base (in_order_of g.base o) g

  pub same-input : (f : Form) → input_query f (group_query asked) ≡ input_query f (group_query g)
  same-input Sorted = refl
  same-input Hashed = refl

  same-keys : (f : Form) → form_keys f (group_query asked) ≡ form_keys f (group_query g)
  same-keys Sorted = refl
  same-keys Hashed = refl

  same-total : (t : GroupTask) (f : Form) (p : Plan) → task_total c (group_query asked) t f p ≡ task_total c (group_query g) t f p
  same-total t Sorted p = refl
  same-total t Hashed p = refl

  plan-here : (t : GroupTask) (f : Form) (p : Plan) → IsTaskPlan c (group_query g) t f p → IsTaskPlan c (group_query asked) t f p
  plan-here t Sorted p is = record { offered = is.offered; input = is.input; admissible = is.admissible }
  plan-here t Hashed p is = record { offered = is.offered; input = is.input; admissible = is.admissible }

  plan-there : (t : GroupTask) (f : Form) (p : Plan) → IsTaskPlan c (group_query asked) t f p → IsTaskPlan c (group_query g) t f p
  plan-there t Sorted p is = record { offered = is.offered; input = is.input; admissible = is.admissible }
  plan-there t Hashed p is = record { offered = is.offered; input = is.input; admissible = is.admissible }

  same-values : (x : Option ColRef) → distinct_in c g.base x ≡ distinct_in c (in_order_of g.base o) x
  same-values None = refl
  same-values (Some x) = refl

  same-distinct : (n : ℕ) → distinct_of c g.base n ≡ distinct_of c (in_order_of g.base o) n
  same-distinct n = same-values (first_in (class_at g.base.classes.classes n) (all_of_query g.base))

  task-here : (t : GroupTask) → IsTaskOf c (group_query g) t → IsTaskOf c (group_query asked) t
  task-here t is = record {
    rows = is.rows;
    distinct = is.distinct ∙ ap (λ (f : ℕ → ℕ). map f (group_keys (group_query g))) (λ i n. same-distinct n i);
    calls = is.calls;
    sorts = by;
  }
    where
      by : (f : Form) → sorts_after f t ≡ not (covers (form_keys f (group_query asked)) (line_keys (group_query asked)))
      by Sorted = is.sorts Sorted
      by Hashed = is.sorts Hashed

  abbrev least-here : (t : GroupTask) (x : GroupPlan) → IsLeastOfTask c (group_query g) t x → IsLeastOfTask c (group_query asked) t x
  least-here t x is = record {
    plan = is.plan;
    is = plan-here t x.form is.plan is.is;
    cost = is.cost ∙ sym (same-total t x.form is.plan);
    sort_after = is.sort_after ∙ ap (λ ks. not (covers ks (line_keys (group_query g)))) (sym (same-keys x.form));
    rows = is.rows;
    least = λ f p other. subst (λ n. x.cost ≤ n) (sym (same-total t f p)) (is.least f p (plan-there t f p other));
  }

  pub chosen-here : (x : Chosen) → IsChosen c g x → IsChosen c asked x
  chosen-here x is = record {
    task = task-here x.task is.task;
    least = least-here x.task x.plan is.least;
    input = is.input;
    finished = subst (λ q. IsFinishedPath c q (path x.input)) (sym (same-input x.plan.form)) is.finished;
  }

module _ (c : Contents) (g : GroupedQuery) (bound : IsWellGrouped c g) where
  base-bound : (f : Form) → IsWellBound c (input_base f g)
  base-bound Sorted = bound.by_groups
  base-bound Hashed = subst (IsWellBound c) (sym (no-order g.base bound.plain)) bound.base

  base-whole : (f : Form) → (input_base f g).window ≡ None
  base-whole Sorted = bound.whole
  base-whole Hashed = bound.whole

  base-once : (f : Form) → input_base f g ≡ input_base f (over_base (input_base f g) g)
  base-once Sorted = refl
  base-once Hashed = refl

  -- the query with its base in the order that the chosen input is asked in
  ready-over : (x : Chosen) → IsTask x.task → IsChosen c g x → IsReady c (over_base (input_base x.plan.form g) g) x
  ready-over x numbers is = record {
    bound = base-bound x.plan.form;
    whole = base-whole x.plan.form;
    asked = base-once x.plan.form;
    numbers = numbers;
    chosen = subst (λ q. IsChosen c (over_base q g) x) (sym (base-for x.plan.form g)) (chosen-here c g (order_for x.plan.form g) x is);
  }

  pub ready : (x : Chosen) (left : GroupedQuery) → IsTask x.task → IsChosen c g x → left ≡ over_base (input_base x.plan.form g) g → IsReady c left x
  ready x left numbers is e = subst (λ h. IsReady c h x) (sym e) (ready-over x numbers is)

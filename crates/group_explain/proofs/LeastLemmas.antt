-- A least plan that groups stands over the best plan of its input's query.
use Rattle.std.proofs.Common.{◌≡◌, ◌≢◌, ◌≤◌, refl, sym, subst, ap, ◌∙◌, arith}
use Rattle.std.specs.Prelude.{Option, Some, None}
use Rattle.catalog.specs.Contents.{Contents}
use Rattle.sql_query.specs.Grouped.{GroupedQuery}
use Rattle.sql_query.specs.Queries.{Query, in_order_of}
use Rattle.plan_tree.specs.Costs.{cost, price, price_by}
use Rattle.plan_tree.specs.Least.{IsAdmissible, IsBestPlan}
use Rattle.plan_tree.specs.work.Paths.{IsFinishedPath, Path}
use Rattle.plan_tree.specs.Plans.{Plan}
use Rattle.plan_tree.specs.Space.{IsFinished}
use Rattle.plan_tree.specs.work.Views.{path}
use Rattle.group_values.specs.declared.form.Form.{Form}
use Rattle.group_values.specs.declared.form.Form.TheVariants.{Sorted, Hashed}
use Rattle.group_values.specs.work.Choice.{input_of}
use Rattle.group_values.specs.declared.task.GroupPlan.{GroupPlan}
use Rattle.group_values.specs.declared.task.GroupTask.{GroupTask}
use Rattle.group_values.proofs.CostLemmas.{total-input, total-rises}
use Rattle.group_explain.specs.GroupPlans.{GroupQuery, input_query}
use Rattle.group_explain.specs.work.GroupPlans.{AreInputs, IsBestOf, IsLeastOfTask, IsTaskOf, IsTaskPlan, task_total}
use Rattle.group_query.specs.Grouping.{IsWellGrouped, group_items}
use Rattle.group_explain.specs.work.Plans.{IsChosen}
use Rattle.group_explain.specs.Texts.{group_query}
use Rattle.group_explain.specs.declared.chosen.Chosen.{Chosen}
use Rattle.group_explain.proofs.OrderLemmas.{no-order}
use Rattle.group_explain.proofs.GroupedPlanLemmas.{whole-query}

price-whole : (c : Contents) (q : Query) → q.window ≡ None → (p : Plan) → price c q p ≡ (cost c q p).total
price-whole c q whole p = ap (λ w. price_by c q w p) whole

-- a least plan that groups over another plan
record IsLeastOver (c : Contents) (g : GroupQuery) (t : GroupTask) (x : GroupPlan) (p : Plan) : Type 0 where
  least : IsLeastOfTask c g t x
  over : least.plan ≡ p

module _ (c : Contents) (g : GroupQuery) (t : GroupTask) (x : GroupPlan) (whole : g.base.window ≡ None) (is : IsLeastOfTask c g t x) where
  abbrev q : Query
  q = input_query x.form g

  -- its input is admissible
  input-admissible : IsAdmissible c q is.plan
  input-admissible = omega (arith, is.is.admissible, total-input x.form t (cost c q is.plan).total)

  module _ (best : Path) (finished : IsFinishedPath c q best) (least : IsBestPlan c q best.tree) where
    no-dearer : (cost c q best.tree).total ≤ (cost c q is.plan).total
    no-dearer = omega (arith, least.least is.plan is.is.input input-admissible, price-whole c q (whole-query x.form g whole) best.tree, price-whole c q (whole-query x.form g whole) is.plan)

    total-no-dearer : task_total c g t x.form best.tree ≤ task_total c g t x.form is.plan
    total-no-dearer = total-rises x.form t (cost c q best.tree).total (cost c q is.plan).total no-dearer

    plan-over : IsTaskPlan c g t x.form best.tree
    plan-over = record { offered = is.is.offered; input = finished.finished; admissible = omega (arith, total-no-dearer, is.is.admissible) }

    least-over : IsLeastOver c g t x best.tree
    least-over = record {
      least = record {
        plan = best.tree;
        is = plan-over;
        cost = omega (arith, is.cost, total-no-dearer, is.least x.form best.tree plan-over);
        sort_after = is.sort_after;
        rows = is.rows;
        least = is.least;
      };
      over = refl;
    }

-- where a plan is admissible there is a best one
some-best : (c : Contents) (q : Query) (o : Option Path) → IsBestOf c q o → (p : Plan) → IsFinished c q p → IsAdmissible c q p → o ≢ None
some-best c q None none p finished below = λ e. none p finished below
some-best c q (Some best) is p finished below = λ e. cc e

module _ (c : Contents) (g : GroupedQuery) (bound : IsWellGrouped c g) (t : GroupTask) (plain sorted : Option Path) (task : IsTaskOf c (group_query g) t) (first : IsBestOf c g.base plain) (second : IsBestOf c (in_order_of g.base (group_items g.base.classes g.keys)) sorted) where
  best-of : (f : Form) → IsBestOf c (input_query f (group_query g)) (input_of f plain sorted)
  best-of Sorted = second
  best-of Hashed = subst (λ q. IsBestOf c q plain) (sym (no-order g.base bound.plain)) first

  -- the two best plans are the inputs of the choice
  pub inputs : AreInputs c (group_query g) t plain sorted
  inputs = record { whole = bound.whole; task = task; best = best-of }

  -- the chosen form has an input
  pub some-input : (x : GroupPlan) → IsLeastOfTask c (group_query g) t x → input_of x.form plain sorted ≢ None
  some-input x is =
      some-best c (input_query x.form (group_query g)) (input_of x.form plain sorted) (best-of x.form) is.plan is.is.input
      (input-admissible c (group_query g) t x bound.whole is)

  chosen-of : (x : Chosen) → x.task ≡ t → IsLeastOfTask c (group_query g) t x.plan → input_of x.plan.form plain sorted ≡ Some (path x.input) → IsChosen c g x
  chosen-of x of_task is e =
      let best : IsBestOf c (input_query x.plan.form (group_query g)) (Some (path x.input)) = subst (IsBestOf c (input_query x.plan.form (group_query g))) e (best-of x.plan.form) in
      let over = least-over c (group_query g) t x.plan bound.whole is (path x.input) best.0 best.1 in
      subst (λ u. IsChosen c g (record { task = u; plan = x.plan; input = x.input })) (sym of_task)
      (record { task = task; least = over.least; input = over.over; finished = best.0 })

  -- what is made of a least plan and its input is chosen
  pub chosen : (x : Chosen) (p : GroupPlan) → x.task ≡ t → x.plan ≡ p → input_of p.form plain sorted ≡ Some (path x.input) → IsLeastOfTask c (group_query g) t p → IsChosen c g x
  chosen x p of_task of_plan e is =
      chosen-of x of_task (subst (IsLeastOfTask c (group_query g) t) (sym of_plan) is)
      (ap (λ (y : GroupPlan). input_of y.form plain sorted) of_plan ∙ e)

-- The least plan over two best inputs is the least of all that group.
use Rattle.std.proofs.Common.{◌≡◌, ℕ, ◌<◌, ◌≤◌, Bor, refl, sym, subst, ap, ◌∙◌, arith, ⊎_elim}
use Rattle.std.specs.Prelude.{Option, Some, None, IfSome, option_map, true}
use Rattle.std.proofs.lemmas.Bool.{cases_lt}
use Rattle.catalog.specs.Contents.{Contents}
use Rattle.cost_rules.specs.declared.parameters.TheConstants.{MOST_COST}
use Rattle.sql_query.specs.Queries.{Query}
use Rattle.plan_tree.specs.declared.path.Path.{Path as Costed}
use Rattle.plan_tree.specs.Costs.{cost, price, price_by}
use Rattle.plan_tree.specs.work.Paths.{Path}
use Rattle.plan_tree.specs.Plans.{Plan}
use Rattle.plan_tree.specs.Space.{IsFinished}
use Rattle.plan_tree.specs.work.Views.{path}
use Rattle.group_values.specs.declared.form.Form.{Form}
use Rattle.group_values.specs.declared.form.Form.TheVariants.{Sorted, Hashed}
use Rattle.group_values.specs.declared.task.GroupPlan.{GroupPlan}
use Rattle.group_values.specs.declared.task.GroupTask.{GroupTask}
use Rattle.group_values.specs.work.Choice as choice
use Rattle.group_values.specs.work.Choice.{input_of}
use Rattle.group_values.specs.work.GroupCosts.{group_total, is_offered}
use Rattle.group_explain.specs.GroupPlans.{GroupQuery, input_query}
use Rattle.group_explain.specs.work.GroupPlans.{AreInputs, IsBestOf, IsLeastGroupPlan, IsTaskPlan, task_total}

abbrev total_kept : Option Path → Option ℕ
total_kept o = option_map (λ (p : Path). p.cost) o

-- what a path that was lent costs is what the path that it stands for costs
pub lent-cost : (o : Option (Bor Costed)) → option_map (λ p. p.now.cost) o ≡ option_map (λ (p : Path). p.cost) (option_map (λ p. path p.now) o)
lent-cost None = refl
lent-cost (Some p) = refl

of-form : (form : Form) (plain sorted : Option Path) → input_of form (total_kept plain) (total_kept sorted) ≡ total_kept (input_of form plain sorted)
of-form Sorted plain sorted = refl
of-form Hashed plain sorted = refl

pub whole-query : (form : Form) (g : GroupQuery) → g.base.window ≡ None → (input_query form g).window ≡ None
whole-query Sorted g e = e
whole-query Hashed g e = e

module _ (c : Contents) (q : Query) (whole : q.window ≡ None) where
  price-whole : (p : Plan) → price c q p ≡ (cost c q p).total
  price-whole p = ap (λ w. price_by c q w p) whole

  -- no finished plan costs less than the best one
  no-less : (o : Option Path) → IsBestOf c q o → (p : Plan) → IsFinished c q p → choice.IsNoLess (total_kept o) (cost c q p).total
  no-less None none p finished = ⊎_elim (λ (lt : (cost c q p).total < MOST_COST). absurd (none p finished lt)) (λ (le : MOST_COST ≤ (cost c q p).total). le) (cases_lt (cost c q p).total MOST_COST)
  no-less (Some best) is p finished = ⊎_elim
      (λ (lt : (cost c q p).total < MOST_COST). omega (arith, is.0.numbers.cost, is.1.least p finished lt, price-whole best.tree, price-whole p))
      (λ (le : MOST_COST ≤ (cost c q p).total). omega (arith, is.0.numbers.cost, is.1.admissible, le))
      (cases_lt (cost c q p).total MOST_COST)

-- the path whose total was given
record Given (o : Option Path) (n : ℕ) : Type 0 where
  best : Path
  is : o ≡ Some best
  total : best.cost ≡ n

given : (o : Option Path) (n : ℕ) → total_kept o ≡ Some n → Given o n
given None n e = cc e
given (Some best) n e = record { best = best; is = refl; total = cc }

module _ (c : Contents) (g : GroupQuery) (t : GroupTask) (plain sorted : Option Path) (inputs : AreInputs c g t plain sorted) where
  dearer : (form : Form) (p : Plan) → IsTaskPlan c g t form p → choice.IsNoLess (input_of form (total_kept plain) (total_kept sorted)) (cost c (input_query form g) p).total
  dearer form p is =
      subst (λ o. choice.IsNoLess o (cost c (input_query form g) p).total) (sym (of-form form plain sorted))
      (no-less c (input_query form g) (whole-query form g inputs.whole) (input_of form plain sorted) (inputs.best form) p is.input)

  abbrev IsLeastChoice : Option GroupPlan → Type 0
  IsLeastChoice r = (form : Form) (n : ℕ) → choice.IsNoLess (input_of form (total_kept plain) (total_kept sorted)) n → is_offered form t ≡ true → group_total form t n < MOST_COST → choice.HasAtMost r (group_total form t n)

  chosen : (r : Option GroupPlan) → IfSome r (choice.IsPlanOver t (total_kept plain) (total_kept sorted)) → IsLeastChoice r → IsLeastGroupPlan c g t r
  chosen None is least = λ form p plan. least form (cost c (input_query form g) p).total (dearer form p plan) plan.offered plan.admissible
  chosen (Some x) is least =
      let from = given (input_of x.form plain sorted) is.input (sym (of-form x.form plain sorted) ∙ is.over) in
      let best = subst (IsBestOf c (input_query x.form g)) from.is (inputs.best x.form) in
      let total : (cost c (input_query x.form g) from.best.tree).total ≡ is.input = sym best.0.numbers.cost ∙ from.total in
      let same : x.cost ≡ task_total c g t x.form from.best.tree = is.cost ∙ ap (group_total x.form t) (sym total) in
      record {
        plan = from.best.tree;
        is = record { offered = is.offered; input = best.0.finished; admissible = subst (λ n. n < MOST_COST) same is.admissible };
        cost = same;
        sort_after = is.sort_after ∙ inputs.task.sorts x.form;
        rows = is.rows;
        least = λ form p plan. least form (cost c (input_query form g) p).total (dearer form p plan) plan.offered plan.admissible;
      }

  -- the least plan that groups, by the totals of the two inputs
  pub chosen-by : (a b : Option ℕ) → a ≡ total_kept plain → b ≡ total_kept sorted → (r : Option GroupPlan) → IfSome r (choice.IsPlanOver t a b)
      → ((form : Form) (n : ℕ) → choice.IsNoLess (input_of form a b) n → is_offered form t ≡ true → group_total form t n < MOST_COST → choice.HasAtMost r (group_total form t n)) → IsLeastGroupPlan c g t r
  chosen-by a b e f r is least =
      chosen r (subst (λ x. IfSome r (choice.IsPlanOver t x (total_kept sorted))) e (subst (λ y. IfSome r (choice.IsPlanOver t a y)) f is))
      (λ form n dearer. least form n (subst (λ x. choice.IsNoLess (input_of form x b) n) (sym e) (subst (λ y. choice.IsNoLess (input_of form (total_kept plain) y) n) (sym f) dearer)))

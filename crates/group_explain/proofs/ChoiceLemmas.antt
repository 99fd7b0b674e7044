-- What was found on the way to a choice makes the choice.
use Rattle.std.proofs.Common.{◌≡◌, ◌≢◌, Bor, refl, sym, subst, ap, ◌∙◌}
use Rattle.std.specs.Prelude.{Option, Some, None, option_map}
use Rattle.std.specs.Option.{option_copied}
use Rattle.catalog.specs.Contents.{Contents}
use Rattle.plan_tree.specs.declared.path.Path.{Path as Costed}
use Rattle.plan_tree.specs.work.Paths.{Path}
use Rattle.plan_tree.specs.work.Views.{path}
use Rattle.sql_query.specs.Grouped.{GroupedQuery}
use Rattle.sql_query.specs.WellBound.{IsWellBound}
use Rattle.group_values.specs.declared.form.Form.{Form}
use Rattle.group_values.specs.declared.form.Form.TheVariants.{Sorted, Hashed}
use Rattle.group_values.specs.work.Choice.{input_of}
use Rattle.group_values.specs.declared.task.GroupPlan.{GroupPlan}
use Rattle.group_values.specs.declared.task.GroupTask.{GroupTask}
use Rattle.group_explain.specs.GroupPlans.{GroupQuery}
use Rattle.group_explain.specs.work.GroupPlans.{AreInputs, IsBestOf, IsLeastGroupPlan, IsTaskOf}
use Rattle.group_query.specs.Grouping.{IsWellGrouped, group_items}
use Rattle.group_explain.specs.Plans.{HasNoGroupPlan}
use Rattle.group_explain.specs.work.Plans.{IsChosen, input_base, over_base}
use Rattle.group_explain.specs.Texts.{group_query}
use Rattle.group_explain.specs.declared.chosen.Chosen.{Chosen}
use Rattle.group_explain.proofs.LeastLemmas.{chosen, inputs, some-input}
use Rattle.group_explain.proofs.NumberLemmas.{no-plan}

-- a path that was lent
same-lent : (o : Option (Bor Costed)) → option_map (λ p. path p.now) o ≡ option_map path (option_copied o)
same-lent None = refl
same-lent (Some p) = refl

pub lent : (o : Option (Bor Costed)) (p : Option Costed) → option_copied o ≡ p → option_map path p ≡ option_map (λ r. path r.now) o
lent o p e = sym (same-lent o ∙ ap (option_map path) e)

-- a query that is asked for in the order of the GROUP BY columns
pub asked-order : (g asked : GroupedQuery) → asked ≡ over_base (input_base Sorted g) g → asked.base.order ≡ group_items asked.base.classes asked.keys
asked-order g asked e = subst (λ (h : GroupedQuery). h.base.order ≡ group_items h.base.classes h.keys) (sym e) refl

pub asked-bound : (c : Contents) (g asked : GroupedQuery) → IsWellGrouped c g → asked ≡ over_base (input_base Sorted g) g → IsWellBound c asked.base
asked-bound c g asked bound e = subst (λ (h : GroupedQuery). IsWellBound c h.base) (sym e) bound.by_groups

same-left : (f : Form) (g : GroupedQuery) → over_base (input_base f (over_base (input_base Sorted g) g)) (over_base (input_base Sorted g) g) ≡ over_base (input_base f g) g
same-left Sorted g = refl
same-left Hashed g = refl

-- a query is left in the order in which the form asks for its input
pub left : (g asked last : GroupedQuery) (p : GroupPlan) (x : Chosen) → asked ≡ over_base (input_base Sorted g) g → last ≡ over_base (input_base p.form asked) asked → x.plan ≡ p → last ≡ over_base (input_base x.plan.form g) g
left g asked last p x e is of_plan =
    is ∙ ap (λ h. over_base (input_base p.form h) h) e ∙ same-left p.form g ∙ ap (λ (y : GroupPlan). over_base (input_base y.form g) g) (sym of_plan)

module _ (c : Contents) (g asked : GroupedQuery) (bound : IsWellGrouped c g) (t : GroupTask) (plain sorted : Option Path) (task : IsTaskOf c (group_query g) t) (first : IsBestOf c g.base plain)
    (over : asked ≡ over_base (input_base Sorted g) g) (second : IsBestOf c asked.base sorted) (r : Option GroupPlan) (least : (h : Contents) (k : GroupQuery) → AreInputs h k t plain sorted → IsLeastGroupPlan h k t r) where
  at : IsBestOf c (input_base Sorted g) sorted
  at = subst (λ (h : GroupedQuery). IsBestOf c h.base sorted) over second

  is : IsLeastGroupPlan c (group_query g) t r
  is = least c (group_query g) (inputs c g bound t plain sorted task first at)

  -- the chosen form has an input
  pub has-input : (p : GroupPlan) → r ≡ Some p → input_of p.form plain sorted ≢ None
  has-input p e = some-input c g bound t plain sorted task first at p (subst (IsLeastGroupPlan c (group_query g) t) e is)

  pub is-chosen : (p : GroupPlan) (x : Chosen) → r ≡ Some p → x.task ≡ t → x.plan ≡ p → input_of p.form plain sorted ≡ Some (path x.input) → IsChosen c g x
  is-chosen p x e of_task of_plan input = chosen c g bound t plain sorted task first at x p of_task of_plan input (subst (IsLeastGroupPlan c (group_query g) t) e is)

  pub none-chosen : r ≡ None → HasNoGroupPlan c g
  none-chosen e = no-plan c g t task (subst (IsLeastGroupPlan c (group_query g) t) e is)

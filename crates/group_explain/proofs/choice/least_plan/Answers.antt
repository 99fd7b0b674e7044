use Rattle.std.proofs.Common.{subst}
use Rattle.std.specs.Prelude.{option_map}
use Rattle.plan_tree.specs.work.Views.{path}
use Rattle.group_explain.specs.work.GroupPlans.{AreInputs}
use Rattle.group_explain.proofs.ChoiceLemmas.{lent}
use Rattle.group_explain.proofs.choice.least_plan.Goals as goal

pub returns : goal.returns
returns c contents g inputs =
    c.choose_plan.ensures contents g
    (subst (λ o. AreInputs contents g c.args.task.now o (option_map (λ p. path p.now) c.as_ref-2.result)) (lent c.as_ref.result c.args.plain.now c.as_ref.ensures.value)
    (subst (λ o. AreInputs contents g c.args.task.now (option_map path c.args.plain.now) o) (lent c.as_ref-2.result c.args.sorted.now c.as_ref-2.ensures.value) inputs))

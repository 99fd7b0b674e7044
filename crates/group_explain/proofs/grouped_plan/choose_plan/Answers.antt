use Rattle.std.proofs.Common.{◌∙◌}
use Rattle.std.specs.Prelude.{option_map}
use Rattle.plan_tree.specs.work.Views.{path}
use Rattle.group_explain.proofs.GroupedPlanLemmas.{chosen-by, lent-cost}
use Rattle.group_explain.proofs.grouped_plan.choose_plan.Goals as goal

pub returns : goal.returns
returns c contents g inputs =
    chosen-by contents g c.args.task.now (option_map (λ p. path p.now) c.args.plain) (option_map (λ p. path p.now) c.args.sorted) inputs c.total_of.result c.total_of-2.result
    (c.total_of.ensures ∙ lent-cost c.args.plain) (c.total_of-2.ensures ∙ lent-cost c.args.sorted) c.choose.result c.choose.ensures.is c.choose.ensures.least

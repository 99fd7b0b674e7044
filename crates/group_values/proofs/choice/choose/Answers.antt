use Rattle.std.proofs.Common.{ap₂, sym, subst, ◌∙◌}
use Rattle.std.specs.Prelude.{IfSome}
use Rattle.group_values.specs.work.GroupCosts.{group_total}
use Rattle.group_values.specs.work.Choice.{HasAtMost, IsPlanOver, lesser}
use Rattle.group_values.proofs.ChoiceLemmas.{chosen-least, chosen-over}
use Rattle.group_values.proofs.choice.choose.Goals as goal

pub returns-clause-is : goal.returns-clause-is
returns-clause-is c =
    let t = c.args.task.now in
    let is = c.lesser.ensures ∙ ap₂ lesser c.candidate-by_order.ensures c.candidate-by_hash.ensures in
    subst (λ r. IfSome r (IsPlanOver t c.args.plain c.args.sorted)) (sym is) (chosen-over t c.args.plain c.args.sorted)

pub returns-clause-least : goal.returns-clause-least
returns-clause-least c form input dearer offered below =
    let t = c.args.task.now in
    let is = c.lesser.ensures ∙ ap₂ lesser c.candidate-by_order.ensures c.candidate-by_hash.ensures in
    subst (λ r. HasAtMost r (group_total form t input)) (sym is) (chosen-least t c.args.plain c.args.sorted form input dearer offered below)

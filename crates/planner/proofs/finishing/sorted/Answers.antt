use Rattle.std.proofs.Common.{ap, ◌∙◌}
use Rattle.plan_tree.specs.work.Views.{path, plan}
use Rattle.plan_tree.proofs.BoundLemmas.{lawful-rows}
use Rattle.planner.proofs.EstimateLemmas.{same-numbers}
use Rattle.planner.proofs.finishing.sorted.Goals as goal

pub returns-clause-numbers : goal.returns-clause-numbers
returns-clause-numbers c =
    let contents = c.args.cat.now in
    let q = c.args.q.now in
    same-numbers contents q (lawful-rows contents q c.lawful.ensures) (path c.args.p) c.args.order c.in_ok-keys.keys c.sorted_cost-cost.result (plan c.in_ok-input.input.value) c.requires.whole (ap plan (c.in_ok-input.ensures.ok ∙ c.into_plan.ensures)) c.in_ok-keys.ensures.equal
    (c.sorted_cost-cost.ensures.kept c.args.order) c.requires.admissible

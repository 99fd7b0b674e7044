use Rattle.std.proofs.Common.{◌∙◌, ap}
use Rattle.plan_tree.specs.work.Paths.{kept_cost}
use Rattle.plan_tree.specs.work.Views.{path}
use Rattle.planner.proofs.EstimateLemmas.{whole-estimate, whole-sorted}
use Rattle.planner.proofs.finishing.sorted_cost.Goals as goal

pub sort-requires-clause-rows : goal.sort-requires-clause-rows
sort-requires-clause-rows c = whole-estimate c.args.cat.now c.args.q.now (path c.args.p.now) c.requires.whole

pub returns-clause-kept : goal.returns-clause-kept
returns-clause-kept c = λ keys.
    c.kept_of.ensures.kept ∙ ap (kept_cost c.args.q.now.window) c.sort.ensures.rule ∙ whole-sorted c.args.cat.now c.args.q.now (path c.args.p.now) keys c.cost_of-input.result c.requires.whole c.cost_of-input.ensures.kept

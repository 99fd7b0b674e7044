use Rattle.plan_tree.specs.work.Views.{path}
use Rattle.join_search.proofs.NestLemmas.{nest-reckoned}
use Rattle.join_search.proofs.nests.nest_kept.Goals as goal

pub returns : goal.returns
returns c =
    let j = c.args.j.now in
    λ n e. nest-reckoned j.cat.now j.q.now j (path c.args.outer.now) (path c.args.inner.now) c.path_rows-rows.result c.args.ops n c.cost_of-outer_cost.result c.cost_of-inner_cost.result c.nest.result
    c.requires.over.split c.requires.outer c.path_rows-rows.ensures.rows c.path_rows-rows.ensures.estimate.some e c.cost_of-outer_cost.ensures.kept c.cost_of-inner_cost.ensures.kept c.nest.ensures.rule

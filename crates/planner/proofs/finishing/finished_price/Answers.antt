use Rattle.std.proofs.Common.{arith}
use Rattle.plan_tree.specs.work.Views.{path}
use Rattle.plan_tree.proofs.BoundLemmas.{lawful-rows}
use Rattle.planner.specs.work.Finishing.{finished}
use Rattle.planner.proofs.EstimateLemmas.{cut-finished, uncut-finished, whole-estimate, whole-query}
use Rattle.planner.proofs.finishing.finished_price.Goals as goal

pub returns-then-cost-ge-MOST_COST-clause-none : goal.returns-then-cost-ge-MOST_COST-clause-none
returns-then-cost-ge-MOST_COST-clause-none c = cut-finished c.args.cat.now c.args.q.now (path c.args.p.now) c.finished_cost-cost.result c.finished_cost-cost.ensures.kept c.if-cost-ge-MOST_COST.true

pub price_of-requires-clause-rows : goal.price_of-requires-clause-rows
price_of-requires-clause-rows c = whole-estimate c.args.cat.now c.args.q.now (path c.args.p.now) c.requires.whole

pub returns-clause-priced : goal.returns-clause-priced
returns-clause-priced c =
    let contents = c.args.cat.now in
    let q = c.args.q.now in
    let p = path c.args.p.now in
    let exact = uncut-finished contents q (lawful-rows contents q c.lawful.ensures) p c.finished_cost-cost.result c.finished_cost-cost.ensures.kept c.if-cost-ge-MOST_COST.false in
    record {
      admissible = exact.1;
      price = c.price_of.ensures.price contents (finished contents q p.tree) exact.0 (whole-query contents q p c.requires.whole);
      below = omega (arith, c.price_of.ensures.most, c.if-cost-ge-MOST_COST.false);
    }

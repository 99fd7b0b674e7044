use Rattle.std.proofs.Common.{◌∙◌, ap₂}
use Rattle.pg_base.specs.Sets.{has}
use Rattle.catalog.specs.Range.{Range}
use Rattle.eq_classes.specs.Clauses.{ClassTable}
use Rattle.path_cost.specs.Estimates.{set_rows}
use Rattle.plan_tree.specs.work.Views.{path}
use Rattle.plan_tree.proofs.BoundLemmas.{lawful-rows}
use Rattle.index_prices.proofs.PricingLemmas.{kept-whole, over-lent, rows-are}
use Rattle.index_prices.proofs.pricing.price.Goals as goal

pub rows-all-requires-clause-clauses : goal.rows-all-requires-clause-clauses
rows-all-requires-clause-clauses c = over-lent c.args.cat.now c.args.q.now c.range_of.result.now c.classes_of.result.now c.requires.bound c.range_of.ensures c.classes_of.ensures

pub returns-clause-price : goal.returns-clause-price
returns-clause-price c =
    let cat = c.args.cat.now in
    let q = c.args.q.now in
    let p = path c.args.p.now in
    let h = c.requires.finished in
    let exact = kept-whole cat q p h (lawful-rows cat q c.lawful.ensures) c.cost_of.result c.requires.admissible c.cost_of.ensures.kept in
    let rows = c.rows-all.ensures.rows ∙ ap₂ (λ (range : Range) (t : ClassTable). set_rows cat range t (has p.set.0)) c.range_of.ensures c.classes_of.ensures in
    c.price_of.ensures.price cat p.tree exact (rows-are cat q p h c.rows-all.result rows)

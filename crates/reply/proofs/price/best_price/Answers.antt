use Rattle.plan_tree.specs.work.Views.{path}
use Rattle.plan_tree.proofs.BoundLemmas.{lawful-rows}
use Rattle.reply.proofs.PriceLemmas.{kept-whole, rows-are, rows-estimate}
use Rattle.reply.proofs.price.best_price.Goals as goal

pub price_of-requires-clause-rows : goal.price_of-requires-clause-rows
price_of-requires-clause-rows c = rows-estimate c.args.cat.now c.args.q.now (path c.args.best.now) c.requires.finished

pub returns : goal.returns
returns c =
    let cat = c.args.cat.now in
    let q = c.args.q.now in
    let p = path c.args.best.now in
    let h = c.requires.finished in
    c.price_of.ensures.price cat p.tree (kept-whole cat q p h (lawful-rows cat q c.lawful.ensures) c.cost_of.result c.requires.admissible c.cost_of.ensures.kept) (rows-are cat q p h)

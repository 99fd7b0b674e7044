use Rattle.plan_tree.specs.work.Views.{path}
use Rattle.index_prices.proofs.QuoteLemmas.{quote-read}
use Rattle.index_prices.proofs.pricing.quote_of.Goals as goal

pub returns-clause-quote : goal.returns-clause-quote
returns-clause-quote c =
    quote-read c.args.cat.now c.args.candidates.now c.args.q.now c.args.set (path c.args.best.now).tree c.price.result c.candidates_read-used.result
    c.requires.room c.requires.best c.price.ensures.price c.candidates_read-used.ensures.all

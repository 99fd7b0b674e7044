use Rattle.index_prices.proofs.QuoteLemmas.{quote-whole}
use Rattle.index_prices.proofs.pricing.least_quote.Goals as goal

pub returns-clause-quote : goal.returns-clause-quote
returns-clause-quote c = quote-whole c.args.cat.now c.args.candidates.now c.args.q.now c.args.set c.in_ok-cost.cost c.in_ok-cost.ensures.price

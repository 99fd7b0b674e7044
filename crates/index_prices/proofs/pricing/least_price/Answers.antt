use Rattle.std.proofs.Common.{sym}
use Rattle.plan_tree.specs.work.Views.{path}
use Rattle.index_prices.proofs.pricing.least_price.Goals as goal

pub returns-in-Ok-clause-price : goal.returns-in-Ok-clause-price
returns-in-Ok-clause-price c = record { plan = (path c.in-Ok.planned.best).tree; best = c.in-Ok.ensures.least; is = sym c.price.ensures.price }

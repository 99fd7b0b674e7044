use Rattle.std.proofs.Common.{◌∙◌, sym}
use Rattle.advisor.proofs.MemoLemmas.{below-more, memo-more}
use Rattle.advisor.proofs.prices.asked_price.Goals as goal

pub returns-clause-memo : goal.returns-clause-memo
returns-clause-memo g c =
    memo-more c.args.prices.now c.insert.new.self _ c.in_ok-quote.quote c.in_ok-insert.ensures.updates (g.P.Pricer.priced c.args.p.now) c.requires.memo c.in_ok-quote.ensures.price

pub returns-clause-known_below : goal.returns-clause-known_below
returns-clause-known_below g c = below-more c.args.prices.now c.insert.new.self _ c.in_ok-quote.quote c.in_ok-insert.ensures.updates c.requires.below c.in_ok-quote.ensures.below

pub returns-in-Some-clause-price : goal.returns-in-Some-clause-price
returns-in-Some-clause-price g c = c.requires.memo (c.args.q, c.args.set) c.in-Some.quote (sym c.known_price.ensures ∙ c.in-Some.is)

pub returns-in-Some-clause-below : goal.returns-in-Some-clause-below
returns-in-Some-clause-below g c = c.requires.below (c.args.q, c.args.set) c.in-Some.quote (sym c.known_price.ensures ∙ c.in-Some.is)

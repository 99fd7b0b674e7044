use Rattle.std.proofs.Common.{◌∙◌, sym, true≢false}
use Rattle.index_prices.proofs.QuoteLemmas.{quote-none}
use Rattle.index_prices.proofs.pricing.read_quote.Goals as goal

pub returns-in-Err-CostLimit-clause-quote : goal.returns-in-Err-CostLimit-clause-quote
returns-in-Err-CostLimit-clause-quote c =
    quote-none c.args.cat.now c.args.candidates.now c.args.q.now c.args.set c.empty.result.0 c.requires.room (c.in-Err-CostLimit.ensures.limit c.in-Err-CostLimit.field-0-is)

pub returns-in-Err-CostLimit-clause-below : goal.returns-in-Err-CostLimit-clause-below
returns-in-Err-CostLimit-clause-below c = record { cost = tt; used = λ k e. absurd (true≢false (sym e ∙ c.empty.ensures k)) }

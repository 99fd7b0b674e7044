use Rattle.std.proofs.Common.{◌<◌, length, sym, subst}
use Rattle.std.specs.Result.{IfOk}
use Rattle.advisor.specs.work.Memos.{IsQuote}
use Rattle.index_prices.specs.Prices.{prices_of}
use Rattle.index_prices.specs.work.Proposals.{Proposal}
use Rattle.index_prices.proofs.ProposalLemmas.{query-bound, quote-told}
use Rattle.index_prices.proofs.pricer.PlanPricerPricer.price.Goals as goal

pub least_quote-requires-clause-bound : goal.least_quote-requires-clause-bound
least_quote-requires-clause-bound c =
    let inside = c.self.inside in
    let lt = subst (λ (p : Proposal). c.args.q < length p.queries) (sym c.self.view_is) c.requires in
    query-bound inside.cat.now inside.candidates.now inside.queries.now c.args.q c.args.s c.in_ok-cat.cat c.index-self-q.result lt c.in_ok-cat.ensures c.self.invariant.bound

pub returns-clause-price : goal.returns-clause-price
returns-clause-price c =
    let inside = c.self.inside in
    let lt = subst (λ (p : Proposal). c.args.q < length p.queries) (sym c.self.view_is) c.requires in
    subst (λ (p : Proposal). IfOk c.least_quote.result (IsQuote (prices_of p.contents p.candidates p.queries) c.args.q c.args.s)) c.self.view_is
    (quote-told inside.cat.now inside.candidates.now inside.queries.now c.args.q c.args.s c.in_ok-cat.cat c.index-self-q.result lt c.in_ok-cat.ensures c.least_quote.result c.least_quote.ensures.quote)

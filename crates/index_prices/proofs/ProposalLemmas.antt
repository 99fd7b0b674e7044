-- Queries of a proposal, over its catalogue with candidates added.
use Rattle.std.proofs.Common.{◌≡◌, ◌<◌, ◌++◌, ℕ, List, Result, All, length, get_or, sym, subst}
use Rattle.std.specs.Result.{IfOk}
use Rattle.std.proofs.lemmas.Option.{slice_get-get_or}
use Rattle.std.proofs.lemmas.Result.{IfOk-weaker}
use Rattle.pg_base.specs.Sets.{has}
use Rattle.advisor.specs.work.Memos.{IsQuote}
use Rattle.advisor.specs.declared.pricer.Quote.{Quote}
use Rattle.catalog.specs.Contents.{Contents, NamedIndex}
use Rattle.sql_query.specs.Queries.{Query}
use Rattle.sql_query.specs.WellBound.{IsWellBound}
use Rattle.plan_laws.specs.Moved.{added_from}
use Rattle.plan_laws.proofs.BoundLemmas.{bound-over}
use Rattle.index_prices.specs.Candidates.{with_added}
use Rattle.index_prices.specs.Prices.{prices_of}
use Rattle.index_prices.specs.work.Quotes.{IsQuoteOver}

module _ (c : Contents) (xs : List NamedIndex) (qs : List Query) (q s : ℕ) (m : Contents) (x : Query) (lt : q < length qs) (made : m ≡ with_added c xs (has s)) where
  -- each is well bound there
  pub query-bound : All (IsWellBound c) qs → IsWellBound m (get_or qs q x)
  query-bound h = subst (λ (d : Contents). IsWellBound d (get_or qs q x)) (sym made) (bound-over c.tables c.indexes (c.indexes ++ added_from 0 (has s) xs) (get_or qs q x) (h q x lt))

  -- what a query costs there with each set between two is what it costs with these candidates
  pub quote-told : {E : Type 0} (r : Result Quote E) → IfOk r (IsQuoteOver m xs (get_or qs q x) s) → IfOk r (IsQuote (prices_of c xs qs) q s)
  quote-told r = IfOk-weaker r (IsQuoteOver m xs (get_or qs q x) s) (IsQuote (prices_of c xs qs) q s) (λ o h t least most. record {
    query = get_or qs q x;
    at = slice_get-get_or qs q x lt;
    least = h c made t least most;
  })

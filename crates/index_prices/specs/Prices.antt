-- What queries cost where candidate indexes are added to a catalogue. Own.
use Rattle.std.specs.Prelude.{◌≡◌, ℕ, List, Option, Some, None, slice_get}
use Rattle.pg_base.specs.Sets.{has}
use Rattle.catalog.specs.Contents.{Contents, NamedIndex}
use Rattle.sql_query.specs.Queries.{Query}
use Rattle.advisor.specs.Choices.{Prices}
use Rattle.plan_laws.specs.Moved.{HasPrice}
use Rattle.index_prices.specs.Candidates.{with_added}
use Rattle.plan_tree.specs.Least.{HasNoPlan}

-- the least price of a query over a catalogue, or that none of its finished plans is admissible
abbrev pub IsLeastPrice : Contents → Query → Option ℕ → Type 0
IsLeastPrice c q None = HasNoPlan c q
IsLeastPrice c q (Some n) = HasPrice c q n

-- what the query of a number costs over the catalogue with a set of candidates added
pub record IsPriceWith (c : Contents) (candidates : List NamedIndex) (queries : List Query) (q set : ℕ) (price : Option ℕ) : Type 0 where
  pub query : Query
  pub at : slice_get queries q ≡ Some query
  pub least : IsLeastPrice (with_added c candidates (has set)) query price

-- what each query costs with each set of candidates
abbrev pub prices_of : Contents → List NamedIndex → List Query → Prices
prices_of c candidates queries = λ q set price. IsPriceWith c candidates queries q set price

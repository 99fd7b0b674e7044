-- Which candidates to make for some queries, and how that is printed. Own.
use Rattle.std.specs.Prelude.{◌≡◌, ℕ, List, ◌++◌, codes, length}
use Rattle.std.specs.Fmt.{decimal}
use Rattle.std.specs.List.{flat_map}
use Rattle.pg_base.specs.Sets.{has}
use Rattle.catalog.specs.Contents.{Contents, NamedIndex}
use Rattle.sql_query.specs.Queries.{Query}
use Rattle.advisor.specs.Choices.{HasNoAdvice, IsAdvice, Priced}
use Rattle.plan_laws.specs.Moved.{added_from}
use Rattle.index_prices.specs.Prices.{prices_of}

-- the advice for at most so many of the candidates: over every set of at most so many the least sum of the queries' least
-- prices, each over the catalogue with the set added
abbrev pub IsAdviceFor : Contents → List NamedIndex → List Query → ℕ → Priced → Type 0
IsAdviceFor c candidates queries most advice = IsAdvice (prices_of c candidates queries) (length queries) (length candidates) most advice

-- with no such set each query has a plan
abbrev pub HasNoAdviceFor : Contents → List NamedIndex → List Query → ℕ → Type 0
HasNoAdviceFor c candidates queries most = HasNoAdvice (prices_of c candidates queries) (length queries) (length candidates) most

-- a candidate that is to be made
abbrev pub use_line : NamedIndex → List ℕ
use_line x = codes "use " ++ (x.name ++ codes "\n")

-- candidates that are to be made, a line each
abbrev pub use_lines : List NamedIndex → List ℕ
use_lines xs = flat_map use_line xs

-- the members of a set, in list order, and the sum
abbrev pub advice_text : List NamedIndex → ℕ → ℕ → List ℕ
advice_text candidates set sum = use_lines (added_from 0 (has set) candidates) ++ (codes "cost=" ++ (decimal sum ++ codes "\n"))

-- a text tells the advice
pub record IsReplyTo (c : Contents) (candidates : List NamedIndex) (queries : List Query) (most : ℕ) (text : List ℕ) : Type 0 where
  pub advice : Priced
  pub is : IsAdviceFor c candidates queries most advice
  pub printed : text ≡ advice_text candidates advice.set advice.sum

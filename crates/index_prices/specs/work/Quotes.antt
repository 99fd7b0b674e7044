-- A price that a query has with each set of candidates between two. Own.
use Rattle.std.specs.Prelude.{◌≡◌, ◌<◌, ℕ, true, List, slice_index_or}
use Rattle.pg_base.specs.Sets.{has}
use Rattle.pg_base.specs.declared.numbers.IndexNo.{IndexNo}
use Rattle.advisor.specs.work.Choices.{IsPart}
use Rattle.advisor.specs.declared.pricer.Quote.{Quote}
use Rattle.catalog.specs.Contents.{Contents, NamedIndex, no_index}
use Rattle.catalog.specs.work.Tables.{HasIndexName}
use Rattle.sql_query.specs.Queries.{Query}
use Rattle.plan_tree.specs.Plans.{Plan}
use Rattle.plan_laws.specs.work.Fewer.{reads}
use Rattle.index_prices.specs.Candidates.{with_added}
use Rattle.index_prices.specs.Prices.{IsLeastPrice}

-- of the candidates before a place, those of a set whose index in a catalogue a plan reads are among some
abbrev pub HasAllRead : Contents → List NamedIndex → ℕ → Plan → ℕ → ℕ → Type 0
HasAllRead c candidates set p place used =
    (k : ℕ) (i : IndexNo) → k < place → has set k ≡ true → HasIndexName c (slice_index_or candidates k no_index).name i → reads p i ≡ true → has used k ≡ true

-- where a catalogue is another one with a set of candidates, a query has the quoted cost with each set between those that
-- are used and that set
abbrev pub IsQuoteOver : Contents → List NamedIndex → Query → ℕ → Quote → Type 0
IsQuoteOver m candidates q set x =
    (c : Contents) → m ≡ with_added c candidates (has set) → (t : ℕ) → IsPart x.used t → IsPart t set → IsLeastPrice (with_added c candidates (has t)) q x.cost

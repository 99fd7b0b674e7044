-- Working words beside those of `Checked`.
use Rattle.std.specs.Prelude.{ℕ, ◌<◌, ◌^◌, Bool, true, false, List}
use Rattle.catalog.specs.Contents.{Contents}
use Rattle.sql_query.specs.Queries.{Query}
use Rattle.plan_check.specs.Certificates.{Certificate}
use Rattle.plan_check.specs.Tables.{IsPlanTable}
use Rattle.certificate_reader.specs.Reading.{IsBlockRead}
use Rattle.plan_check.specs.declared.verdict.Reason.{Reason}
use Rattle.plan_check.specs.declared.verdict.Reason.TheVariants as reasons

-- a reason that is a plan no entry dominates
abbrev pub is_uncovered : Reason → Bool
is_uncovered (reasons.Uncovered node startup total rows) = true
is_uncovered _ = false

-- the numbers of any other reason are below 2^64, as those of the program are
abbrev pub HasWords : Reason → Type 0
HasWords (reasons.BadNode n) = n < 2 ^ 64
HasWords (reasons.BadNumber n what printed own) = (n < 2 ^ 64) × (printed < 2 ^ 64) × (own < 2 ^ 64)
HasWords (reasons.Uncovered node startup total rows) = Unit {0}
HasWords (reasons.Dominated n m) = (n < 2 ^ 64) × (m < 2 ^ 64)
HasWords (reasons.NotBest printed own) = (printed < 2 ^ 64) × (own < 2 ^ 64)

module _ (c : Contents) (q : Query) where
  -- the block is the text of a certificate that is a table of the query
  pub record IsTableText (block : List ℕ) : Type 0 where
    pub certificate : Certificate
    pub read : IsBlockRead c q block certificate
    pub table : IsPlanTable c q certificate

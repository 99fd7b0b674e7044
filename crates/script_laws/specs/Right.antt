-- What replies show of all plans, and of all sets of candidates. Own.
use Rattle.std.specs.Prelude.{◌≡◌, ◌≤◌, ℕ, List, ◌++◌, length, Some, IsPermutation}
use Rattle.advisor.specs.Choices.{IsChoice, IsPriced, IsSum, Priced}
use Rattle.catalog.specs.Contents.{Contents, NamedIndex}
use Rattle.statements.specs.certificate_reader_Reading.{IsBlockRead}
use Rattle.statements.specs.index_prices_Prices.{prices_of}
use Rattle.statements.specs.index_prices_Replies.{advice_text}
use Rattle.plan_check.specs.Certificates.{Certificate, finish_at}
use Rattle.plan_check.specs.Tables.{IsPlanTable}
use Rattle.plan_tree.specs.Costs.{price}
use Rattle.explain.specs.Texts.{explained_text, plan_text}
use Rattle.statements.specs.plan_reply_Told.{IsGoodPlan}
use Rattle.statements.specs.reply_Answers.{result_text}
use Rattle.plan_tree.specs.Least.{IsAdmissible, IsBestPlan}
use Rattle.plan_tree.specs.Plans.{Plan}
use Rattle.plan_tree.specs.Run.{run}
use Rattle.plan_tree.specs.Space.{IsFinished}
use Rattle.sql_query.specs.Meaning.{IsOrdered, meaning, windowed}
use Rattle.sql_query.specs.Queries.{Query}
use Rattle.sql_query.specs.Tuples.{no_rows}
use Rattle.sql_query.specs.Worlds.{World}

module _ (w : World) (q : Query) where
  -- a finished plan that no admissible finished plan undercuts: where there is one it is admissible too, and its price is no greater.
  -- Its rows are those that the query means, each as often, in the ORDER BY
  pub record IsRightPlan (p : Plan) : Type 0 where
    pub finished : IsFinished w.contents q p
    pub least : (other : Plan) → IsFinished w.contents q other → IsAdmissible w.contents q other → IsAdmissible w.contents q p × (price w.contents q p ≤ price w.contents q other)
    pub meant : IsPermutation (run w q p (no_rows q)) (meaning w q)
    pub ordered : IsOrdered w q (run w q p (no_rows q))

  -- the text of a right plan that is admissible is printed, and behind it a line for each of its rows that LIMIT and OFFSET let
  -- through, with their number
  pub record IsRightAnswer (bytes : List ℕ) : Type 0 where
    pub plan : Plan
    pub admissible : IsAdmissible w.contents q plan
    pub right : IsRightPlan plan
    pub printed : bytes ≡ explained_text w.contents q plan ++ result_text w q (windowed q.window (run w q plan (no_rows q)))

  -- the text of a right plan that is admissible is printed
  pub record IsRightExplanation (bytes : List ℕ) : Type 0 where
    pub plan : Plan
    pub admissible : IsAdmissible w.contents q plan
    pub right : IsRightPlan plan
    pub printed : bytes ≡ explained_text w.contents q plan

  -- the block is the text of a certificate that is a table of the query, and its best plan is right
  pub record IsRightBlock (block : List ℕ) : Type 0 where
    pub certificate : Certificate
    pub read : IsBlockRead w.contents q block certificate
    pub table : IsPlanTable w.contents q certificate
    pub best : Plan
    pub is : finish_at q certificate certificate.best ≡ Some best
    pub right : IsRightPlan best

-- the block is the text of a good plan, than which no best plan costs more, and what is printed are its text and its rows, which are
-- those that the query means, each as often, in the ORDER BY
pub record IsUsedPlan (w : World) (q : Query) (block bytes : List ℕ) : Type 0 where
  pub plan : Plan
  pub good : IsGoodPlan w.contents q block plan
  pub no_cheaper : (best : Plan) → IsBestPlan w.contents q best → price w.contents q best ≤ price w.contents q plan
  pub meant : IsPermutation (run w q plan (no_rows q)) (meaning w q)
  pub ordered : IsOrdered w q (run w q plan (no_rows q))
  pub printed : bytes ≡ plan_text w.contents q plan ++ result_text w q (run w q plan (no_rows q))

-- the printed set is one that may be chosen, with its own sum, and no set that may be chosen has a lower one
pub record IsLeastAdvice (c : Contents) (candidates : List NamedIndex) (queries : List Query) (most : ℕ) (bytes : List ℕ) : Type 0 where
  pub advice : Priced
  pub printed : bytes ≡ advice_text candidates advice.set advice.sum
  pub priced : IsPriced (prices_of c candidates queries) (length queries) (length candidates) most advice
  pub least : (set sum : ℕ) → IsChoice (length candidates) most set → IsSum (prices_of c candidates queries) (length queries) set sum → advice.sum ≤ sum

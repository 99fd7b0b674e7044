-- What USE PLAN of a SELECT prints. Own.
use Rattle.std.specs.Prelude.{ℕ, ◌≡◌, ◌≤◌, cond, List, [], ◌++◌, codes, IsPermutation}
use Rattle.std.specs.Fmt.{decimal}
use Rattle.catalog.specs.Contents.{Contents}
use Rattle.reply_text.specs.Texts.{invalid_line}
use Rattle.cost_rules.specs.declared.parameters.TheConstants.{MOST_COST}
use Rattle.reply.specs.explain_Texts.{plan_text}
use Rattle.sql_query.specs.Meaning.{IsOrdered, meaning}
use Rattle.sql_query.specs.Queries.{Query}
use Rattle.sql_query.specs.Worlds.{World}
use Rattle.plan_tree.specs.Costs.{cost, price}
use Rattle.plan_tree.specs.Least.{IsBestPlan}
use Rattle.plan_tree.specs.Plans.{Plan}
use Rattle.plan_tree.specs.Space.{IsFinished}
use Rattle.plan_tree.specs.work.Views.{plan}
use Rattle.plan_space.specs.Judging.{IsGood, IsJudged}
use Rattle.plan_space.specs.Numbered.{CostAndRows}
use Rattle.plan_space.specs.declared.judged.Judged.{Judged}
use Rattle.plan_space.specs.declared.judged.Judged.TheVariants.{Good, Outside, Limit, Number}
use Rattle.plan_reader.specs.Written.{IsWritten}
use Rattle.reply.specs.Answers.{result_text, tuples_of}
use Rattle.reply.specs.Effort.{answer_fetches, answer_looks, exactly}
use Rattle.reply.specs.Replies.{Reply}

-- why a plan that is read is not run; of a good one there is no reason
abbrev pub reason_text : Judged → List ℕ
reason_text Good = []
reason_text (Outside line) = codes "P2 line " ++ decimal line
reason_text Limit = codes "P4 cost " ++ decimal MOST_COST
reason_text (Number line is_cost printed own) =
    codes "P3 line " ++ (decimal line ++ (codes " " ++ (cond is_cost (codes "cost") (codes "rows") ++ (codes " " ++ (decimal printed ++ (codes " is " ++ decimal own))))))

-- a plan that is read is not good
abbrev pub IsNotGood : Judged → Type 0
IsNotGood Good = ⊥
IsNotGood _ = Unit {0}

module _ (c : Contents) (q : Query) (block : List ℕ) where
  -- the block is the text of no plan
  abbrev pub IsNoPlanText : Type 0
  IsNoPlanText = (p : Plan) (ns : List CostAndRows) → ¬ IsWritten c q block p ns

  -- the block is the text of a plan that is not good, for this reason
  pub record IsFaulted (bytes : List ℕ) : Type 0 where
    pub plan : Plan
    pub numbers : List CostAndRows
    pub read : IsWritten c q block plan numbers
    pub judged : Judged
    pub fault : IsNotGood judged
    pub holds : IsJudged c q plan numbers judged
    pub told : bytes ≡ invalid_line (reason_text judged)

  -- why the plan of the block is not run: it is the text of none, or of one that is not good
  pub data IsRefusedPlan (bytes : List ℕ) : Type 0 where
    unread : IsNoPlanText → bytes ≡ invalid_line (codes "P1") → IsRefusedPlan bytes
    faulted : IsFaulted bytes → IsRefusedPlan bytes

  -- the block is the text of a good plan
  pub record IsGoodPlan (p : Plan) : Type 0 where
    pub numbers : List CostAndRows
    pub read : IsWritten c q block p numbers
    pub good : IsGood c q p numbers

-- the rows of a plan that is written out: its tuples are the query's meaning, each as often, and in its ORDER BY; its cost is
-- no less than the price of a best plan. Its text is printed, and a line for each of these tuples, with their number
pub record IsPlanAnswer (w : World) (q : Query) (p : Plan) (bytes : List ℕ) : Type 0 where
  pub finished : IsFinished w.contents q p
  pub dearer : (best : Plan) → IsBestPlan w.contents q best → price w.contents q best ≤ (cost w.contents q p).total
  pub meant : IsPermutation (tuples_of w q p) (meaning w q)
  pub ordered : IsOrdered w q (tuples_of w q p)
  pub printed : bytes ≡ plan_text w.contents q p ++ result_text w q (tuples_of w q p)

-- the answer by the plan of a block, which is the text that is printed, with that plan's fetches and its looks beside 32 for
-- each row
pub record IsPlanned (w : World) (q : Query) (block : List ℕ) (r : Reply) : Type 0 where
  pub plan : Plan
  pub good : IsGoodPlan w.contents q block plan
  pub same : block ≡ plan_text w.contents q plan
  pub answer : IsPlanAnswer w q plan r.bytes
  pub fetched : r.fetched ≡ answer_fetches w q plan
  pub looked : r.looked ≡ answer_looks w q plan

-- what USE PLAN prints of a block that is given for a plan of a query: the answer by that plan where it is a good one, else a
-- line with the first reason for which it is not, with nothing fetched and nothing looked at
pub data IsPlanReplyTo (w : World) (q : Query) (block : List ℕ) (r : Reply) : Type 0 where
  planned : IsPlanned w q block r → IsPlanReplyTo w q block r
  refused : IsRefusedPlan w.contents q block r.bytes → r.fetched ≡ exactly 0 → r.looked ≡ 0 → IsPlanReplyTo w q block r

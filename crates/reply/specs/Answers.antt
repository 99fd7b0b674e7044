-- What a SELECT and its EXPLAIN print. Own.
use Rattle.std.specs.Prelude.{ℕ, ◌≡◌, List, ◌++◌, length, map, IsPermutation}
use Rattle.std.specs.List.{flat_map}
use Rattle.pg_value.specs.declared.value.SqlType.{SqlType}
use Rattle.catalog.specs.Contents.{Contents}
use Rattle.catalog.specs.Range.{type_in}
use Rattle.reply_text.specs.Texts.{row_line, count_line}
use Rattle.sql_query.specs.Queries.{Query}
use Rattle.sql_query.specs.Worlds.{World}
use Rattle.sql_query.specs.Tuples.{Tuple, no_rows}
use Rattle.sql_query.specs.Meaning.{IsOrdered, meaning, shown, windowed}
use Rattle.plan_tree.specs.Least.{IsBestPlan}
use Rattle.plan_tree.specs.Plans.{Plan}
use Rattle.plan_tree.specs.Run.{run}
use Rattle.explain.specs.Texts.{explained_text}

-- all tuples of a plan, in the order in which it gives them
abbrev pub tuples_of : World → Query → Plan → List Tuple
tuples_of w q p = run w q p (no_rows q)

-- the types of the columns that are shown, from the left
abbrev pub shown_types : Contents → Query → List SqlType
shown_types c q = map (type_in c q.range) q.select

-- a line for each tuple, of the values that it shows, each as one of its column's type
abbrev pub tuples_text : World → Query → List Tuple → List ℕ
tuples_text w q ts = flat_map (λ t. row_line (shown_types w.contents q) (shown w q t)) ts

-- a line for each tuple, and the line of their number
abbrev pub result_text : World → Query → List Tuple → List ℕ
result_text w q ts = tuples_text w q ts ++ count_line (length ts)

-- by a best plan, whose tuples are the query's meaning, each as often, and in its ORDER BY as written: the plan's text, with
-- the line of LIMIT and OFFSET first where one is written, and of those tuples, in their order, the ones that these let
-- through, with their number
pub record IsAnswer (w : World) (q : Query) (p : Plan) (bytes : List ℕ) : Type 0 where
  pub best : IsBestPlan w.contents q p
  pub meant : IsPermutation (tuples_of w q p) (meaning w q)
  pub ordered : IsOrdered w q (tuples_of w q p)
  pub printed : bytes ≡ explained_text w.contents q p ++ result_text w q (windowed q.window (tuples_of w q p))

-- the text of a best plan alone
pub record IsExplanation (c : Contents) (q : Query) (p : Plan) (bytes : List ℕ) : Type 0 where
  pub best : IsBestPlan c q p
  pub printed : bytes ≡ explained_text c q p

-- What EXPLAIN (TABLE) of a SELECT prints. Own.
use Rattle.std.specs.Prelude.{ℕ, ◌≡◌, List, ◌++◌, codes, Some}
use Rattle.catalog.specs.Contents.{Contents}
use Rattle.sql_query.specs.Queries.{Query}
use Rattle.pg_value.specs.Sorting.{IsInOrder}
use Rattle.plan_tree.specs.Least.{IsBestPlan}
use Rattle.plan_tree.specs.Plans.{Plan}
use Rattle.plan_check.specs.Certificates.{Certificate, finish_at}
use Rattle.plan_check.specs.Tables.{IsPlanTable}
use Rattle.planned_table.specs.certificate_text_HasText.{HasText}
use Rattle.planned_table.specs.certificate_text_Texts.{certificate_text}
use Rattle.planned_table.specs.explain_Texts.{explained_text}
use Rattle.planned_table.specs.certificate_laws_Printing.{printing_order}
use Rattle.reply.specs.Effort.{exactly}
use Rattle.reply.specs.Replies.{Reply}

-- a plan that no admissible one undercuts, with a table of the query whose best plan it is; the entries stand in the order of
-- printing, and the table has a text
pub record IsTabled (c : Contents) (q : Query) (p : Plan) (t : Certificate) : Type 0 where
  pub best : IsBestPlan c q p
  pub table : IsPlanTable c q t
  pub unfolds : finish_at q t t.best ≡ Some p
  pub ordered : IsInOrder printing_order t.entries
  pub text : HasText c q t

-- the plan's text, with the line of LIMIT and OFFSET first where one is written, then the table's, then the line behind a
-- certificate
abbrev pub tabled_text : Contents → Query → Plan → Certificate → List ℕ
tabled_text c q p t = explained_text c q p ++ (certificate_text c q t ++ codes "\\.\n")

-- bytes that are such a text
pub record IsTabledText (c : Contents) (q : Query) (bytes : List ℕ) : Type 0 where
  pub plan : Plan
  pub certificate : Certificate
  pub tabled : IsTabled c q plan certificate
  pub printed : bytes ≡ tabled_text c q plan certificate

-- the reply to EXPLAIN (TABLE): such a text, with nothing fetched and nothing looked at
pub record IsTableOf (c : Contents) (q : Query) (r : Reply) : Type 0 where
  pub text : IsTabledText c q r.bytes
  pub fetched : r.fetched ≡ exactly 0
  pub looked : r.looked ≡ 0

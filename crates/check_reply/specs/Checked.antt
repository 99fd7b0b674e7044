-- What CHECK of a SELECT's certificate prints: one line. Own.
use Rattle.std.specs.Prelude.{ℕ, ◌≡◌, nat_eq, cond, List, [], ◌∷◌, ◌++◌, length, codes}
use Rattle.std.specs.Fmt.{decimal}
use Rattle.catalog.specs.Contents.{Contents}
use Rattle.reply_text.specs.Texts.{invalid_line}
use Rattle.sql_query.specs.Queries.{Query}
use Rattle.plan_check.specs.Certificates.{Certificate, Entry}
use Rattle.plan_check.specs.Tables.{IsEntryAt}
use Rattle.certificate_check.specs.certificate_text_HasText.{HasEntryLine}
use Rattle.certificate_check.specs.certificate_text_Texts.{ended, entry_text}
use Rattle.certificate_reader.specs.Faults.{IsFaultLine, IsCertificateText}
use Rattle.certificate_reader.specs.Reading.{IsBlockRead}
use Rattle.plan_check.specs.Verdicts.{IsUncovered, IsVerdict}
use Rattle.plan_check.specs.declared.verdict.Number.{Number}
use Rattle.plan_check.specs.declared.verdict.Number.TheVariants.{Startup, Total, Rows}
use Rattle.plan_check.specs.declared.verdict.Plain.{Plain}
use Rattle.plan_check.specs.declared.verdict.Reason.{Reason}
use Rattle.plan_check.specs.declared.verdict.Reason.TheVariants as reasons
use Rattle.plan_check.specs.declared.verdict.Verdict.{Verdict}
use Rattle.plan_check.specs.declared.verdict.Verdict.TheVariants as verdicts

-- the line of a certificate that is a table
abbrev pub valid_line : List ℕ
valid_line = ended (codes "valid")

-- no certificate's text, with its first wrong line
abbrev pub wrong_line_text : ℕ → List ℕ
wrong_line_text line = codes "C1 line " ++ decimal line

-- an entry that is not as it says; entry 0 is the best plan
abbrev pub bad_node_text : ℕ → List ℕ
bad_node_text n = cond (nat_eq n 0) (codes "C2 best") (codes "C2 entry " ++ decimal n)

-- the word of a reason for a number of an entry: its cost before the first row, its cost in all, its rows
abbrev pub number_name : Number → List ℕ
number_name Startup = codes "startup"
number_name Total = codes "cost"
number_name Rows = codes "rows"

-- a number of an entry, as it is printed and as it is
abbrev pub bad_number_text : ℕ → Number → ℕ → ℕ → List ℕ
bad_number_text n what printed own = codes "C3 entry " ++ (decimal n ++ (codes " " ++ (number_name what ++ (codes " " ++ (decimal printed ++ (codes " is " ++ decimal own))))))

-- an entry, and one that dominates it
abbrev pub dominated_text : ℕ → ℕ → List ℕ
dominated_text n m = codes "C5 entry " ++ (decimal n ++ (codes " by " ++ decimal m))

-- the price of the best plan, and the least one
abbrev pub not_best_text : ℕ → ℕ → List ℕ
not_best_text printed own = codes "C6 best " ++ (decimal printed ++ (codes " least " ++ decimal own))

-- a plan that no entry dominates, as the line of an entry without its number
abbrev pub uncovered_text : Contents → Query → Entry → List ℕ
uncovered_text c q e = codes "C4 " ++ entry_text c q e

-- a certificate with one more entry behind its others
abbrev pub with_entry : Certificate → Entry → Certificate
with_entry t e = record { entries = t.entries ++ e ∷ []; best = t.best }

module _ (c : Contents) (q : Query) where
  module _ (t : Certificate) where
    -- a plan that one entry must dominate and none does is reported as an entry: behind the others that stands for the plan,
    -- with the plan's set, parameterisation, numbers and keys
    pub record IsToldBy (node : Plain) (startup total rows : ℕ) (e : Entry) : Type 0 where
      pub uncovered : IsUncovered c q t node startup total rows
      pub stands : IsEntryAt c q (with_entry t e) (length t.entries) e
      pub same : stands.plan ≡ uncovered.plan

    -- what is said of a reason
    abbrev pub IsReasonText : Reason → List ℕ → Type 0
    IsReasonText (reasons.BadNode n) text = text ≡ bad_node_text n
    IsReasonText (reasons.BadNumber n what printed own) text = text ≡ bad_number_text n what printed own
    IsReasonText (reasons.Dominated n m) text = text ≡ dominated_text n m
    IsReasonText (reasons.Uncovered node startup total rows) text = (e : Entry) × IsToldBy node startup total rows e × HasEntryLine c q e × (text ≡ uncovered_text c q e)
    IsReasonText (reasons.NotBest printed own) text = text ≡ not_best_text printed own

    -- the line of a verdict
    abbrev pub IsVerdictLine : Verdict → List ℕ → Type 0
    IsVerdictLine verdicts.Valid line = line ≡ valid_line
    IsVerdictLine (verdicts.No r) line = (text : List ℕ) × IsReasonText r text × (line ≡ invalid_line text)

  -- a block is the text of a certificate, and of no other one, and bytes are the line of a verdict on it: that it is a
  -- table, or the first reason for which it is none
  pub record IsBlockJudged (block bytes : List ℕ) : Type 0 where
    pub certificate : Certificate
    pub read : IsBlockRead c q block certificate
    pub verdict : Verdict
    pub holds : IsVerdict c q certificate verdict
    pub told : IsVerdictLine certificate verdict bytes

  -- or it is no certificate's text, and bytes are the line that names the first wrong line of the block
  pub record IsFaulty (block bytes : List ℕ) : Type 0 where
    pub line : ℕ
    pub at : IsFaultLine c q block line
    pub none : ¬ IsCertificateText c q block
    pub told : bytes ≡ invalid_line (wrong_line_text line)

  -- what CHECK prints of a block that is given for a certificate of a query
  pub data IsCheckedText (block bytes : List ℕ) : Type 0 where
    faulty : IsFaulty block bytes → IsCheckedText block bytes
    judged : IsBlockJudged block bytes → IsCheckedText block bytes

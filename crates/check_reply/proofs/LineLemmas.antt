-- What a line says of a block.
use Rattle.std.proofs.Common.{◌≡◌, ℕ, List, ◌++◌, get_or, arith, ap, sym, subst, ◌∙◌}
use Rattle.std.specs.Prelude.{codes}
use Rattle.catalog.specs.Contents.{Contents}
use Rattle.sql_query.specs.Queries.{Query}
use Rattle.plan_check.specs.Certificates.{Certificate}
use Rattle.plan_check.specs.Tables.{IsPlanTable}
use Rattle.plan_check.proofs.ReasonLemmas.{refuted}
use Rattle.plan_check.specs.Verdicts.{IsVerdict}
use Rattle.plan_check.specs.declared.verdict.Verdict.{Verdict}
use Rattle.plan_check.specs.declared.verdict.Verdict.TheVariants as verdicts
use Rattle.reply_text.specs.Texts.{invalid_line}
use Rattle.check_reply.specs.Checked.{IsCheckedText, IsVerdictLine, wrong_line_text, faulty, judged, valid_line}
use Rattle.check_reply.specs.work.Checked.{IsTableText}

-- no line begins so and so
apart : (reason rest : List ℕ) → invalid_line reason ≡ codes "valid" ++ rest → ⊥
apart reason rest e = let first : 105 ≡ 118 = ap (λ (xs : List ℕ). get_or xs 0 0) e in omega (arith, first)

module _ (c : Contents) (q : Query) where
  table-said : (t : Certificate) (v : Verdict) (bytes rest : List ℕ) → IsVerdict c q t v → IsVerdictLine c q t v bytes → bytes ≡ codes "valid" ++ rest → IsPlanTable c q t
  table-said t verdicts.Valid bytes rest holds told e = holds
  table-said t (verdicts.No r) bytes rest holds told e = absurd (apart told.0 rest (sym told.2 ∙ e))

  pub valid-table : (block bytes rest : List ℕ) → IsCheckedText c q block bytes → bytes ≡ codes "valid" ++ rest → IsTableText c q block
  valid-table block bytes rest (faulty f) e = absurd (apart (wrong_line_text f.line) rest (sym f.told ∙ e))
  valid-table block bytes rest (judged j) e = record { certificate = j.certificate; read = j.read; table = table-said j.certificate j.verdict bytes rest j.holds j.told e }

  said-of : (t : Certificate) (v : Verdict) (bytes : List ℕ) → IsPlanTable c q t → IsVerdict c q t v → IsVerdictLine c q t v bytes → bytes ≡ valid_line
  said-of t verdicts.Valid bytes table holds told = told
  said-of t (verdicts.No r) bytes table holds told = absurd (refuted c q t r holds table)

  pub table-valid : (block bytes : List ℕ) → IsCheckedText c q block bytes → IsTableText c q block → bytes ≡ valid_line
  table-valid block bytes (faulty f) h = absurd (f.none (record { certificate = h.certificate; has = h.read.has; is = h.read.is }))
  table-valid block bytes (judged j) h =
      let same : h.certificate ≡ j.certificate = j.read.only h.certificate h.read.has h.read.is in
      said-of j.certificate j.verdict bytes (subst (IsPlanTable c q) same h.table) j.holds j.told

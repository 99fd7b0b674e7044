-- What reading a line of a certificate text comes to. Own.
use Rattle.std.specs.Prelude.{◌≡◌, ℕ, List, Result, Ok, Err}
use Rattle.catalog.specs.Contents.{Contents}
use Rattle.sql_query.specs.Queries.{Query}
use Rattle.certificate_text.specs.plan_check_Certificates.{Entry, Side}
use Rattle.certificate_text.specs.plan_check_Views.{side}
use Rattle.certificate_text.specs.plan_check_work_Views.{entry}
use Rattle.certificate_text.specs.HasText.{HasEntryLine, IsEntryNumber}
use Rattle.certificate_text.specs.Texts.{best_line, entry_line}
use Rattle.certificate_entries.specs.declared.line.Line.{Line}
use Rattle.certificate_entries.specs.declared.line.Line.TheVariants as lines
use Rattle.certificate_entries.specs.declared.line.LineFault.{LineFault}
use Rattle.certificate_entries.specs.declared.line.LineFault.TheVariants as faults

-- the line is that of a best plan, and of no other one
pub record IsBestRead (line : List ℕ) (s : Side) : Type 0 where
  pub has : IsEntryNumber s.entry
  pub is : line ≡ best_line s
  pub only : (o : Side) → IsEntryNumber o.entry → line ≡ best_line o → o ≡ s

-- the line is that of no best plan
abbrev pub IsNoBestLine : List ℕ → Type 0
IsNoBestLine line = (s : Side) → IsEntryNumber s.entry → ¬ (line ≡ best_line s)

module _ (c : Contents) (q : Query) where
  -- the line is that of no entry with a number
  abbrev pub IsNoEntryLine : ℕ → List ℕ → Type 0
  IsNoEntryLine n line = (e : Entry) → HasEntryLine c q e → ¬ (line ≡ entry_line c q n e)

  -- the line is that of an entry with a number, and of no other one
  pub record IsEntryRead (n : ℕ) (line : List ℕ) (e : Entry) : Type 0 where
    pub has : HasEntryLine c q e
    pub is : line ≡ entry_line c q n e
    pub only : (o : Entry) → HasEntryLine c q o → line ≡ entry_line c q n o → o ≡ e

  -- no entry has the line with this number, and no best plan has it
  pub record IsBad (n : ℕ) (line : List ℕ) : Type 0 where
    pub entry : IsNoEntryLine n line
    pub best : IsNoBestLine line

  -- a line is read as the entry of a number, or as the best plan, that has it; a bad line is that of neither. Out of memory
  -- says nothing
  abbrev pub IsRead : ℕ → List ℕ → Result Line LineFault → Type 0
  IsRead n line (Ok (lines.Entry e)) = IsEntryRead n line (entry e)
  IsRead n line (Ok (lines.Best s)) = IsBestRead line (side s)
  IsRead n line (Err faults.Bad) = IsBad n line
  IsRead n line (Err faults.Memory) = Unit {0}

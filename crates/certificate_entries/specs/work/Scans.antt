-- Scans by an index, behind their names. Own.
use Rattle.std.specs.Prelude.{ℕ, Bool, List, ◌++◌, codes, Option}
use Rattle.pg_base.specs.declared.numbers.IndexNo.{IndexNo}
use Rattle.catalog.specs.Contents.{Contents, IsIndex, index_name_at}
use Rattle.certificate_text.specs.explain_Texts.{backward_text}
use Rattle.certificate_entries.specs.work.Parts.{Reads}

module _ (c : Contents) where
  -- the direction and the index of a scan
  abbrev pub scan_text : IndexNo × Bool → List ℕ
  scan_text x = backward_text x.1 ++ (codes " using " ++ index_name_at c x.0)

  -- a direction and an index of the catalogue are read from a text, and what follows is left
  abbrev pub ReadsScan : List ℕ → List ℕ → Option (IndexNo × Bool) → Type 0
  ReadsScan old new result = Reads (λ (x : IndexNo × Bool). IsIndex c x.0) scan_text old new result

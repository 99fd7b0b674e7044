-- Scans by an index, behind the names of their kinds. Own.
use Rattle.std.specs.Prelude.{ℕ, List, ◌++◌, codes}
use Rattle.catalog.specs.Contents.{Contents, index_name_at}
use Rattle.sql_query.specs.Queries.{Query}
use Rattle.certificate_entries.specs.explain_Texts.{backward_text, scanned_text}
use Rattle.plan_lines.specs.HasText.{IsIndexOfQuery, IsScanned}
use Rattle.plan_lines.specs.declared.indexes.IndexScan.{IndexScan}

module _ (c : Contents) (q : Query) where
  -- a scan by an index that has a text
  abbrev pub IsIndexScan : IndexScan → Type 0
  IsIndexScan s = IsScanned c q s.rel s.param × IsIndexOfQuery c q s.index

  -- the text of a scan by an index: its direction, the index, and the relation with those whose rows the scan is given
  abbrev pub indexed_text : IndexScan → List ℕ
  indexed_text s = backward_text s.backward ++ (codes " using " ++ (index_name_at c s.index ++ (codes " on " ++ scanned_text c q s.rel s.param)))

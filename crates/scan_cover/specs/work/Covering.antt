-- Which scans a certificate that is judged covers: an entry dominates each admissible one; and which it misses. Own.
use Rattle.std.specs.Prelude.{List}
use Rattle.pg_base.specs.declared.rel_set.RelSet.{RelSet}
use Rattle.pg_base.specs.declared.numbers.RelNo.{RelNo}
use Rattle.pg_base.specs.declared.numbers.IndexNo.{IndexNo}
use Rattle.std.specs.List.{AllZip}
use Rattle.catalog.specs.Contents.{Contents}
use Rattle.eq_classes.specs.declared.classes.ClassNo.{ClassNo}
use Rattle.pathkeys.specs.work.Finding.{class_numbers}
use Rattle.plan_tree.specs.Plans.{Plan, BitTree, bitmap, seq}
use Rattle.bitmap_scan.specs.work.Chosen.{combined, marked}
use Rattle.plan_check.specs.work.Beating.{IsBeaten, candidate}
use Rattle.plan_check.specs.Plains.{StandsForPlan}
use Rattle.plan_check.specs.Reasons.{AllRight}
use Rattle.plan_check.specs.work.Views.{certificate}
use Rattle.plan_check.specs.declared.candidate.Candidate.{Candidate}
use Rattle.plan_check.specs.declared.judged.Judged.{Judged}
use Rattle.plan_check.specs.declared.verdict.Plain.{Plain}
use Rattle.join_cover.specs.entry_check_Owning.{tree_of}
use Rattle.join_cover.specs.entry_check_numbers_Own.{Own}
use Rattle.join_cover.specs.entry_check_scans_ByIndex.{ByIndex}
use Rattle.join_cover.specs.work.Covering.{Misses}
use Rattle.join_cover.specs.work.Serving.{IsOpen, IsServed}
use Rattle.join_cover.specs.declared.uncovered.Uncovered.{Uncovered}
use Rattle.scan_cover.specs.work.Scanning.{ArePlainScansServed, IsIndexServed, IsLeftOpen, IsRelationServed, IsScanWith}
use Rattle.scan_cover.specs.work.Trees.{AreAllBitmapsServed, AreBitmapsServed, AreRelationBitmapsServed, IsKept, IsMarkServed}
use Rattle.scan_cover.specs.declared.kept.Kept.{Kept}
use Rattle.scan_cover.specs.declared.masks.Given.{Given}
use Rattle.sql_query.specs.Queries.{Query}
use Rattle.plan_check.specs.Certificates.{Certificate}
use Rattle.std.specs.Prelude.{ℕ}
use Rattle.plan_check.specs.declared.verdict.Plain.TheVariants as plain

-- data is for a scan of a relation, but none by a bitmap
abbrev pub IsPlainScan : Plain → Type 0
IsPlainScan (plain.Seq r) = Unit {0}
IsPlainScan (plain.Index r i backward only param) = Unit {0}
IsPlainScan (plain.Bitmap r param elements arms) = ⊥
IsPlainScan (plain.Nest outer inner) = ⊥
IsPlainScan (plain.Merge keys outer inner) = ⊥

-- data is for a scan of a relation by a bitmap
abbrev pub IsScanByBitmap : Plain → Type 0
IsScanByBitmap (plain.Seq r) = ⊥
IsScanByBitmap (plain.Index r i backward only param) = ⊥
IsScanByBitmap (plain.Bitmap r param elements arms) = Unit {0}
IsScanByBitmap (plain.Nest outer inner) = ⊥
IsScanByBitmap (plain.Merge keys outer inner) = ⊥

-- the certificate misses a scan, but none by a bitmap
abbrev pub MissesPlainScan : Judged → Plain × Uncovered → Type 0
MissesPlainScan j r = IsPlainScan r.0 × Misses j r

-- the certificate misses a scan by a bitmap
abbrev pub MissesBitmapScan : Judged → Plain × Uncovered → Type 0
MissesBitmapScan j r = IsScanByBitmap r.0 × Misses j r

-- the certificate covers the sequential scan of a relation
abbrev pub CoversSeq : Judged → RelNo → Type 0
CoversSeq j r = IsServed j.cat.now j.q.now (certificate j.t.now) (seq r)

-- the certificate misses the sequential scan of a relation
abbrev pub MissesSeq : Judged → RelNo → Uncovered → Type 0
MissesSeq j r x = IsOpen j.cat.now j.q.now (certificate j.t.now) (plain.Seq r) x

-- the certificate covers a scan by an index
abbrev pub CoversScan : Judged → ByIndex → Type 0
CoversScan j s = IsServed j.cat.now j.q.now (certificate j.t.now) (tree_of s)

-- the certificate misses a scan by an index
abbrev pub MissesScan : Judged → ByIndex → Uncovered → Type 0
MissesScan j s x = IsOpen j.cat.now j.q.now (certificate j.t.now) (plain.Index s.rel s.index s.backward s.only s.param) x

-- the certificate covers the scans by an index where the rows of a parameterisation are given
abbrev pub CoversIndex : Judged → RelNo → RelSet → IndexNo → Type 0
CoversIndex j r p i = IsIndexServed j.cat.now j.q.now (certificate j.t.now) r p i

-- the certificate covers the scans by every index where the rows of a parameterisation are given
abbrev pub CoversIndexes : Judged → RelNo → RelSet → Type 0
CoversIndexes j r p = (i : IndexNo) → IsIndexServed j.cat.now j.q.now (certificate j.t.now) r p i

-- the certificate covers the scans of a relation, but those by a bitmap
abbrev pub CoversRelation : Judged → RelNo → Type 0
CoversRelation j r = IsRelationServed j.cat.now j.q.now (certificate j.t.now) r

-- the certificate covers the scans of every relation, but those by a bitmap
abbrev pub CoversPlainScans : Judged → Type 0
CoversPlainScans j = ArePlainScansServed j.cat.now j.q.now (certificate j.t.now)

-- the certificate covers the scans by a bitmap of a relation where the rows of a parameterisation are given
abbrev pub CoversBitmaps : Judged → Given → Type 0
CoversBitmaps j at = AreBitmapsServed j.cat.now j.q.now at.rel at.param (certificate j.t.now)

-- the certificate covers the scans by a bitmap of a relation, whatever rows are given
abbrev pub CoversRelationBitmaps : Judged → RelNo → Type 0
CoversRelationBitmaps j rel = AreRelationBitmapsServed j.cat.now j.q.now (certificate j.t.now) rel

-- the certificate covers the scans by a bitmap of every relation
abbrev pub CoversAllBitmaps : Judged → Type 0
CoversAllBitmaps j = AreAllBitmapsServed j.cat.now j.q.now (certificate j.t.now)

-- the certificate covers the scans by a bitmap over the elements that a number marks
abbrev pub CoversMarked : Judged → Given → List Kept → ℕ → Type 0
CoversMarked j at kept mask = IsMarkServed j.cat.now j.q.now at.rel at.param (certificate j.t.now) kept mask

-- the certificate misses each scan by a bitmap over the elements that a number marks
abbrev pub MissesMarked : Judged → Given → List Kept → ℕ → Uncovered → Type 0
MissesMarked j at kept mask x =
    (bs : List BitTree) (node : Plain) → AllZip (IsKept j.cat.now j.q.now at.rel at.param) (marked mask kept) bs →
    StandsForPlan j.cat.now j.q.now (certificate j.t.now) node (bitmap at.rel at.param (combined bs)) →
    IsOpen j.cat.now j.q.now (certificate j.t.now) node x

-- data stands for the scan by a bitmap over some elements, in trees of least part
abbrev pub IsNodeOfMarked : Contents → Query → Given → List Kept → Plain → Type 0
IsNodeOfMarked c q at ks node = (bs : List BitTree) × AllZip (IsKept c q at.rel at.param) ks bs ×
    ((t : Certificate) → StandsForPlan c q t node (bitmap at.rel at.param (combined bs)))

-- an entry beats a candidate by what it says
abbrev pub CoversCandidate : Judged → Candidate → Type 0
CoversCandidate j x = IsBeaten j.q.now.window (certificate j.t.now).entries (candidate x)

-- no entry beats a candidate, and these are its numbers
abbrev pub MissesCandidate : Judged → Candidate → Uncovered → Type 0
MissesCandidate j x u = IsLeftOpen j.q.now.window (certificate j.t.now) (candidate x) u

-- the certificate covers each scan with a set, a parameterisation, keys and numbers, where its entries are right
abbrev pub CoversScansWith : Judged → RelSet → RelSet → List ClassNo → Own → Type 0
CoversScansWith j set param keys own = (c : Contents) (p : Plan) → AllRight c j.q.now (certificate j.t.now) →
    IsScanWith c j.q.now set param (class_numbers keys) own p → IsServed c j.q.now (certificate j.t.now) p

-- the certificate misses each scan with a set, a parameterisation, keys and numbers, where its entries are right
abbrev pub MissesScansWith : Judged → RelSet → RelSet → List ClassNo → Own → Uncovered → Type 0
MissesScansWith j set param keys own x = (c : Contents) (p : Plan) (node : Plain) → AllRight c j.q.now (certificate j.t.now) →
    IsScanWith c j.q.now set param (class_numbers keys) own p → StandsForPlan c j.q.now (certificate j.t.now) node p →
    IsOpen c j.q.now (certificate j.t.now) node x

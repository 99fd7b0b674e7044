-- Which scans are dominated by an entry of a certificate. Own.
use Rattle.std.specs.Prelude.{◌≡◌, Bool, Option, cond, true}
use Rattle.pg_base.specs.declared.numbers.IndexNo.{IndexNo}
use Rattle.pg_base.specs.declared.numbers.RelNo.{RelNo}
use Rattle.pg_base.specs.declared.rel_set.RelSet.{RelSet}
use Rattle.catalog.specs.Contents.{Contents}
use Rattle.sql_query.specs.Queries.{Query}
use Rattle.sql_query.specs.declared.window.Window.{Window}
use Rattle.plan_laws.specs.Closed.{is_scan}
use Rattle.pathkeys.specs.Keys.{Keys}
use Rattle.plan_tree.specs.work.Fronts.{is_no_bitmap}
use Rattle.plan_tree.specs.Paths.{startup_kept}
use Rattle.plan_tree.specs.Plans.{Plan, seq, index, index_only}
use Rattle.plan_check.specs.Certificates.{Certificate, Entry}
use Rattle.plan_check.specs.Tables.{HasItsPlan}
use Rattle.plan_check.specs.work.Beating.{IsUnbeaten, as_entry}
use Rattle.join_cover.specs.entry_check_Owning.{AreNumbersOf}
use Rattle.join_cover.specs.entry_check_numbers_Own.{Own}
use Rattle.join_cover.specs.work.Serving.{IsServed}
use Rattle.join_cover.specs.declared.uncovered.Uncovered.{Uncovered}

-- no entry beats what is said, and these are its numbers
pub record IsLeftOpen (w : Option Window) (t : Certificate) (e : Entry) (x : Uncovered) : Type 0 where
  pub none : IsUnbeaten w t.entries e
  pub startup_is : x.startup ≡ startup_kept w e.startup
  pub total_is : x.cost ≡ e.cost
  pub rows_are : x.rows ≡ e.rows

-- a scan of the space is admissible, and this is its set, its parameterisation, its keys and its numbers
pub record IsScanWith (c : Contents) (q : Query) (set param : RelSet) (keys : Keys) (own : Own) (p : Plan) : Type 0 where
  pub scan : is_scan p ≡ true
  pub has : HasItsPlan c q (as_entry set param 0 0 0 keys) p
  pub numbers : AreNumbersOf c q p own

-- a scan by an index
abbrev pub scan_by : RelNo → RelSet → IndexNo → Bool → Bool → Plan
scan_by r p i only backward = cond only (index_only r i backward p) (index r i backward p)

module _ (c : Contents) (q : Query) (t : Certificate) where
  -- the scans by an index where the rows of a parameterisation are given: index-only or not, either way
  abbrev pub IsIndexServed : RelNo → RelSet → IndexNo → Type 0
  IsIndexServed r p i = (only backward : Bool) → IsServed c q t (scan_by r p i only backward)

  -- the scans of one relation, but those by a bitmap
  pub record IsRelationServed (r : RelNo) : Type 0 where
    pub in_order : IsServed c q t (seq r)
    pub by_index : (p : RelSet) (i : IndexNo) → IsIndexServed r p i

  -- all scans but those by a bitmap
  abbrev pub ArePlainScansServed : Type 0
  ArePlainScansServed = (p : Plan) → is_scan p ≡ true → is_no_bitmap p ≡ true → IsServed c q t p

-- Indexes of arms in an array that is filled from the left. Own.
use Rattle.std.specs.Prelude.{◌≡◌, ◌≤◌, ◌⊎◌, List, ◌++◌, length, replicate, take, map, All}
use Rattle.pg_base.specs.declared.limits.TheConstants.{MOST_ATOMS}
use Rattle.pg_base.specs.declared.numbers.IndexNo.{IndexNo}
use Rattle.scan_cover.specs.declared.filling.Arms.{Arms}
use Rattle.std.specs.List.{AllZip}
use Rattle.pg_base.specs.declared.numbers.RelNo.{RelNo}
use Rattle.pg_base.specs.declared.rel_set.RelSet.{RelSet}
use Rattle.pg_expr.specs.work.View.{cond}
use Rattle.pg_expr.specs.declared.expr.Expr.{Expr}
use Rattle.catalog.specs.Contents.{Contents}
use Rattle.sql_query.specs.Queries.{Query}
use Rattle.plan_tree.specs.Bitmaps.{MatchesArm}
use Rattle.bitmap_scan.specs.work.Arms.{IsLeastMatch}

-- an array of 256 with some indexes in front and 0 behind them
abbrev pub in_array : List IndexNo → List IndexNo
in_array found = take MOST_ATOMS (found ++ replicate MOST_ATOMS (record { 0 = 0 }))

-- the indexes that were found were put into an array, as far as there is room, and counted
pub record IsFilled (a : Arms) (found : List IndexNo) : Type 0 where
  pub indexes : a.indexes ≡ in_array found
  pub count : (a.count ≡ length found) ⊎ (MOST_ATOMS ≤ a.count)
  pub few : a.count ≤ length found

-- some indexes were put behind those in an array
abbrev pub PutsIndexes : Arms → Arms → List IndexNo → Type 0
PutsIndexes old new is = (found : List IndexNo) → IsFilled old found → IsFilled new (found ++ is)

-- each arm has an index that matches it
abbrev pub HaveMatches : Contents → Query → RelNo → List Expr → Type 0
HaveMatches c q r arms = All (λ (e : Expr). (i : IndexNo) × MatchesArm c q r.0 (cond e) i) arms

-- the matching index of least part of each arm was put behind those in an array
abbrev pub PutsLeast : Contents → Query → RelNo → RelSet → List Expr → Arms → Arms → Type 0
PutsLeast c q r p arms old new = (is : List IndexNo) × AllZip (IsLeastMatch c q r p) (map cond arms) is × PutsIndexes old new is

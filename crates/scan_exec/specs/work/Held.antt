-- Sets of rows that a bitmap is made of. Own.
use Rattle.std.specs.Prelude.{◌≡◌, ◌<◌, ℕ, true, ◌||◌, List, length, nat_lt, All, filter, map}
use Rattle.std.specs.List.{AllZip}
use Rattle.pg_base.specs.Sets.{has}
use Rattle.pg_base.specs.declared.numbers.IndexNo.{IndexNo}
use Rattle.pg_base.specs.declared.numbers.RelNo.{RelNo}
use Rattle.pg_base.specs.declared.rel_set.RelSet.{RelSet}
use Rattle.opfamily.specs.KeyOrder.{IndexEntry}
use Rattle.pg_expr.specs.Cond.{Cond}
use Rattle.heap.specs.work.TidSets.{TidSet, is_member, rows_passing}
use Rattle.catalog.specs.Contents.{Contents}
use Rattle.catalog.specs.Indexes.{Index}
use Rattle.catalog.specs.Range.{Range}
use Rattle.index_match.specs.Arms.{arms_of}
use Rattle.index_match.specs.Conditions.{index_conditions}
use Rattle.sql_query.specs.Queries.{Query}
use Rattle.sql_query.specs.Tuples.{Tuple, rows_of_relation}
use Rattle.sql_query.specs.Worlds.{World}
use Rattle.plan_tree.specs.Bitmaps.{IsIndexOn, MatchesArm, condition_at}
use Rattle.plan_tree.specs.Plans.{BitTree, leaf, all_hold, some_arm, BitTrees, no_trees, tree_and}
use Rattle.plan_tree.specs.Run.{held, some_holds}
use Rattle.scan_probes.specs.work.Scenes.{AreReadyAtEntry}
use Rattle.scan_probes.specs.work.Values.{Given}
use Rattle.scan_exec.specs.work.Scene.{IsNear}
use Rattle.catalog.specs.work.Entries.{index_of}
use Rattle.scan_probes.specs.work.Filters.{lent_conditions}
use Rattle.scan_exec.specs.work.Kinds.{passes_entry}
use Rattle.scan_exec.specs.declared.bitmap.Tests.{Tests}

-- a set that is given by its members
abbrev pub IsMade : TidSet → Type 0
IsMade s = rows_passing s.bound (is_member s.members) ≡ s.members

-- a set with more rows
abbrev pub with_rows : TidSet → List ℕ → TidSet
with_rows s rows = record { bound = s.bound; members = rows_passing s.bound (λ n. is_member s.members n || is_member rows n) }

-- a set with the rows that some of the arms holds, by an index for each
abbrev pub with_arms : World → Query → RelNo → Tuple → TidSet → List Cond → List IndexNo → TidSet
with_arms w q r o s arms is = record { bound = s.bound; members = rows_passing s.bound (λ n. is_member s.members n || some_holds w q r o n arms is) }

-- the rows that a bitmap tree holds, as a set
abbrev pub set_held : World → Query → RelNo → RelSet → BitTree → Tuple → TidSet
set_held w q r p tree o = record { bound = length (rows_of_relation w q r); members = held w q r p tree o }

-- what stands at the entries that are put into a set of rows: each is of a row below the bound, and conditions can be tested
pub record IsReadyMark (c : Contents) (range : Range) (r : ℕ) (given : Given) (es : List Cond) (d : Index) (bound : ℕ) (e : IndexEntry) : Type 0 where
  pub within : e.row < bound
  pub entry : AreReadyAtEntry c range r given es d e

-- a bitmap tree can be made where rows of the relations of a set are given: an index of the relation's table with a condition,
-- an index for each arm of an OR clause over these relations, or one or more of these
abbrev mutual
  pub IsHeldTree : Contents → Query → RelNo → RelSet → BitTree → Type 0
  IsHeldTree c q r p (leaf i) = IsIndexOn c q r.0 i × (nat_lt 0 (length (index_conditions c q.classes i r.0 (has p.0))) ≡ true)
  IsHeldTree c q r p (all_hold bs) = AreHeldTrees c q r p bs × HasTree bs
  IsHeldTree c q r p (some_arm n is) = IsNear c q r.0 (has p.0) (condition_at q n) × AllZip (MatchesArm c q r.0) (arms_of (condition_at q n)) is

  pub AreHeldTrees : Contents → Query → RelNo → RelSet → BitTrees → Type 0
  AreHeldTrees c q r p no_trees = Unit {0}
  AreHeldTrees c q r p (tree_and b bs) = IsHeldTree c q r p b × AreHeldTrees c q r p bs

  pub HasTree : BitTrees → Type 0
  HasTree no_trees = ⊥
  HasTree (tree_and b bs) = Unit {0}

-- each of a list of entries is of a row below the bound, and the conditions can be tested there
abbrev pub AreReadyMarks : Tests → ℕ → List IndexEntry → Type 0
AreReadyMarks t bound es =
    All (IsReadyMark t.beside.now.cat.now t.beside.now.range.now t.beside.now.rel.0 t.given.now (lent_conditions t.conditions.now)
    (index_of t.def.now) bound) es

-- the rows of the entries that pass the tests
abbrev pub passed_rows : Tests → List IndexEntry → List ℕ
passed_rows t es =
    map (λ (e : IndexEntry). e.row)
    (filter (passes_entry t.beside.now.rel.0 t.given.now (lent_conditions t.conditions.now) (index_of t.def.now)) es)

-- What a scan comes to and looks at, in a `Scene`. Own.
use Rattle.std.specs.Prelude.{◌≡◌, ℕ, Bool, true, List, filter, length, map, nat_lt}
use Rattle.std.specs.List.{AllZip}
use Rattle.std.specs.Borrow.{Bor}
use Rattle.pg_base.specs.Sets.{has}
use Rattle.pg_base.specs.declared.numbers.IndexNo.{IndexNo}
use Rattle.opfamily.specs.KeyOrder.{IndexEntry}
use Rattle.pg_expr.specs.Cond.{Cond}
use Rattle.pg_expr.specs.declared.expr.Expr.{Expr}
use Rattle.catalog.specs.Contents.{index_at}
use Rattle.heap.specs.Stored.{Values}
use Rattle.heap.specs.work.TidSets.{TidSet}
use Rattle.index_match.specs.Conditions.{index_conditions}
use Rattle.index_match.specs.Numbered.{base, conditions_of}
use Rattle.sql_query.specs.Meaning.{all_true}
use Rattle.sql_query.specs.Tuples.{beside, rows_of_relation}
use Rattle.plan_tree.specs.Bitmaps.{MatchesArm}
use Rattle.plan_tree.specs.Counts as counts
use Rattle.plan_tree.specs.Entries.{entries, entry_rows}
use Rattle.plan_tree.specs.Plans.{BitTree, BitTrees, Plan, bitmap}
use Rattle.plan_tree.specs.Run as run
use Rattle.plan_tree.specs.Space.{IsBitmapScan}
use Rattle.scan_probes.specs.work.Filters.{lent_conditions}
use Rattle.store.specs.work.Kept.{Built, built_of}
use Rattle.scan_exec.specs.Coming.{Coming, bounded, coming, entry_row, fetched_row, index_coming}
use Rattle.scan_exec.specs.work.Held.{AreHeldTrees, IsHeldTree, set_held, with_arms}
use Rattle.scan_exec.specs.work.Scene.{AreUsed, IsNear, IsUsed, limits, tuple_of, world_of}
use Rattle.scan_exec.specs.declared.scene.Scene.{Scene}

module _ {C F L : Type 0} (s : Scene C F L) where
  -- the rows of its relation
  abbrev pub scene_rows : List Values
  scene_rows = rows_of_relation (world_of s) s.q.now s.rel

  -- an index over these rows
  abbrev pub scene_index : IndexNo → Built
  scene_index i = built_of (index_at s.cat.now i) scene_rows

  -- the conditions on its relation alone
  abbrev pub scene_base : List Cond
  scene_base = conditions_of (base s.q.now.classes s.rel.0)

  -- the clauses of the scene's relation, with those that the rows given bind
  abbrev pub scene_clauses : List Cond
  scene_clauses = run.clauses_at (world_of s) s.q.now s.rel s.param

  -- the conditions that an index scan of it uses inside its index
  abbrev pub scene_conditions : IndexNo → List Cond
  scene_conditions i = run.index_scan_conditions (world_of s) s.q.now s.rel i s.param

  -- an index has such a condition
  abbrev pub HasIndexCondition : IndexNo → Type 0
  HasIndexCondition i =
      nat_lt 0 (length (index_conditions s.cat.now s.q.now.classes i s.rel.0 (has s.param.0))) ≡ true

  -- a condition is on columns of the relation and of the rows given
  abbrev pub IsNearScene : Cond → Type 0
  IsNearScene e = IsNear s.cat.now s.q.now s.rel.0 (has s.param.0) e

  -- an index may use a condition
  abbrev pub IsUsedThere : IndexNo → Cond → Type 0
  IsUsedThere i e = IsUsed s.cat.now s.q.now s.rel.0 (has s.param.0) i e

  -- an index may use each of the conditions that are lent
  abbrev pub AreUsedThere : IndexNo → List (Bor Expr) → Type 0
  AreUsedThere i es = AreUsed s.cat.now s.q.now s.rel s.param i (lent_conditions es)

  -- indexes match the arms of an OR clause, one for each
  abbrev pub MatchArms : List Cond → List IndexNo → Type 0
  MatchArms arms is = AllZip (MatchesArm s.cat.now s.q.now s.rel.0) arms is

  -- the entries of an index that meet those conditions that bound a part of it
  abbrev pub entries_within : IndexNo → List (Bor Expr) → List IndexEntry
  entries_within i es =
      filter (λ e. all_true (world_of s) s.q.now (beside s.q.now s.rel.0 e.row (tuple_of s))
      (limits (index_at s.cat.now i) s.rel.0 (lent_conditions es))) (entries (world_of s) i)

  -- the rows of its entries that meet conditions
  abbrev pub rows_meeting : IndexNo → List Cond → List ℕ
  rows_meeting i es = run.at_which (world_of s) s.q.now s.rel (tuple_of s) es (entry_rows (world_of s) i)

  -- the looks that its entries within the bounds of conditions take
  abbrev pub bound_looks : IndexNo → List Cond → ℕ
  bound_looks i es =
      counts.entries_met (world_of s) s.q.now (index_at s.cat.now i).method s.rel i (tuple_of s)
      (limits (index_at s.cat.now i) s.rel.0 es)

  -- the rows that a plan comes to
  abbrev pub scene_coming : Plan → List Coming
  scene_coming p = coming (world_of s) s.q.now p (tuple_of s)

  -- the looks that it may take
  abbrev pub scene_looks : Plan → ℕ
  scene_looks p = counts.looks (world_of s) s.q.now p (tuple_of s)

  -- the looks at the rows given
  abbrev pub outer_looks : ℕ
  outer_looks = counts.given_looks (world_of s) s.q.now s.param

  -- the rows that an index scan comes to
  abbrev pub index_scan_rows : IndexNo → Bool → List Coming
  index_scan_rows i backward =
      index_coming (world_of s) s.q.now (index_at s.cat.now i).method s.rel i backward s.param (tuple_of s)

  -- the rows that a scan by a B-tree comes to, be it an index-only scan or not
  abbrev pub tree_rows : IndexNo → Bool → Bool → List Coming
  tree_rows i only backward =
      map (entry_row (world_of s) s.q.now s.rel i only s.param (tuple_of s))
      (run.in_scan_direction (world_of s) s.q.now backward (bounded (world_of s) s.q.now s.rel i s.param (tuple_of s)))

  -- the rows that a scan by a hash index comes to
  abbrev pub hash_scan_rows : IndexNo → List Coming
  hash_scan_rows i =
      map (fetched_row (world_of s) s.q.now s.rel (tuple_of s) scene_clauses)
      (run.met (world_of s) s.q.now s.rel i s.param (tuple_of s))

  -- a bitmap tree can be made
  abbrev pub IsSceneTree : BitTree → Type 0
  IsSceneTree tree = IsHeldTree s.cat.now s.q.now s.rel s.param tree

  -- each of some bitmap trees can be made
  abbrev pub AreSceneTrees : BitTrees → Type 0
  AreSceneTrees trees = AreHeldTrees s.cat.now s.q.now s.rel s.param trees

  -- a bitmap tree is that of a bitmap scan
  abbrev pub IsSceneBitmap : BitTree → Type 0
  IsSceneBitmap tree = IsBitmapScan s.cat.now s.q.now s.rel s.param tree

  -- the rows that it holds
  abbrev pub scene_held : BitTree → TidSet
  scene_held tree = set_held (world_of s) s.q.now s.rel s.param tree (tuple_of s)

  -- a set of rows with those that some arm holds, by an index for each
  abbrev pub with_scene_arms : TidSet → List Cond → List IndexNo → TidSet
  with_scene_arms held arms is = with_arms (world_of s) s.q.now s.rel (tuple_of s) held arms is

  -- the rows that a bitmap scan comes to
  abbrev pub bitmap_rows : BitTree → List Coming
  bitmap_rows tree = scene_coming (bitmap s.rel s.param tree)

  -- the looks that making a bitmap of an index takes
  abbrev pub leaf_looks : IndexNo → ℕ
  leaf_looks i = counts.index_looks (world_of s) s.q.now s.rel i s.param (tuple_of s)

  -- the looks that making the bitmaps of the arms of an OR clause takes
  abbrev pub arms_looks : List Cond → List IndexNo → ℕ
  arms_looks arms is = counts.arm_looks (world_of s) s.q.now s.rel (tuple_of s) arms is

  -- the looks that making a bitmap tree takes
  abbrev pub scene_tree_looks : BitTree → ℕ
  scene_tree_looks tree = counts.tree_looks (world_of s) s.q.now s.rel s.param (tuple_of s) tree

  -- the looks that making some bitmap trees takes
  abbrev pub trees_looks : BitTrees → ℕ
  trees_looks trees = counts.all_tree_looks (world_of s) s.q.now s.rel s.param (tuple_of s) trees

-- A relation of a query over a store of its catalogue, beside the rows of other relations that a scan of it is given, and the
-- conditions that a scan uses there. Own.
use Rattle.std.specs.Prelude.{◌≡◌, ◌<◌, ℕ, true, ◌&&◌, List, All}
use Rattle.pg_base.specs.Sets.{has}
use Rattle.pg_base.specs.declared.numbers.IndexNo.{IndexNo}
use Rattle.pg_base.specs.declared.numbers.RelNo.{RelNo}
use Rattle.pg_base.specs.declared.numbers.Tid.{Tid}
use Rattle.pg_base.specs.declared.rel_set.RelSet.{RelSet}
use Rattle.pg_expr.specs.Columns.{each_column}
use Rattle.pg_expr.specs.Cond.{Cond}
use Rattle.pg_expr.specs.Typed.{IsTyped}
use Rattle.heap.specs.work.Tuples.{padded}
use Rattle.catalog.specs.Contents.{Contents, index_at}
use Rattle.catalog.specs.Indexes.{Index}
use Rattle.catalog.specs.Range.{type_in}
use Rattle.eq_classes.specs.Clauses.{Set, one}
use Rattle.eq_classes.specs.Parts.{union}
use Rattle.index_match.specs.Bounds.{bounding}
use Rattle.index_match.specs.Conditions.{is_condition}
use Rattle.index_match.specs.Numbered.{conditions_of, numbered_from_0}
use Rattle.path_cost.specs.work.Columns.{is_column_in}
use Rattle.sql_query.specs.Queries.{Query, width}
use Rattle.sql_query.specs.Tuples.{Tuple}
use Rattle.sql_query.specs.WellBound.{IsWellBound}
use Rattle.sql_query.specs.Worlds.{World, world}
use Rattle.scan_probes.specs.work.Scenes.{AreRowsOf}
use Rattle.scan_probes.specs.work.Values.{Given, tuple_given}
use Rattle.store.specs.work.Kept.{IsStoreOf, Kept}
use Rattle.scan_exec.specs.declared.scene.Scene.{Scene}

-- a relation of a well bound query, a store of its catalogue, and the rows of the relations of a set, of which these are read
pub record IsScene (c : Contents) (k : Kept) (q : Query) (r : RelNo) (p : RelSet) (rows : List Tid) (g : Given) : Type 0 where
  pub bound : IsWellBound c q
  pub store : IsStoreOf c k
  pub relation : r.0 < width q
  pub outer : AreRowsOf (world c k.stored) q p rows
  pub given : g ≡ tuple_given (world c k.stored) q (has p.0) (padded (width q) (has p.0) rows)

-- a condition is over the columns of a relation and of those of a set, and well typed
pub record IsNear (c : Contents) (q : Query) (r : ℕ) (p : Set) (e : Cond) : Type 0 where
  pub columns : each_column (λ x. is_column_in c q.range x && union (one r) p x.rel.0) e ≡ true
  pub typed : IsTyped (type_in c q.range) e

-- a condition is over the columns of a relation and of those of a set, well typed, and an index may use it on a key column
pub record IsUsed (c : Contents) (q : Query) (r : ℕ) (p : Set) (i : IndexNo) (e : Cond) : Type 0 where
  pub near : IsNear c q r p e
  pub form : is_condition (index_at c i) r e ≡ true

-- the conditions of a list are ones that a scan of the relation may use inside its index
abbrev pub AreUsed : Contents → Query → RelNo → RelSet → IndexNo → List Cond → Type 0
AreUsed c q r p i es = All (IsUsed c q r.0 (has p.0) i) es

-- the conditions of a list that bound a part of an index
abbrev pub limits : Index → ℕ → List Cond → List Cond
limits d r es = conditions_of (bounding d.method r d.keys (numbered_from_0 es))

-- what a `Scene` stands for
abbrev pub world_of : {C F L : Type 0} → Scene C F L → World
world_of s = world s.cat.now s.store.now.stored

-- the rows that the scan is given, as a tuple with a place for each relation of the query
abbrev pub tuple_of : {C F L : Type 0} → Scene C F L → Tuple
tuple_of s = padded (width s.q.now) (has s.param.0) s.outer.now

-- the parts of a `Scene` agree, and these are the rows that the scan is given
abbrev pub IsSceneOf : {C F L : Type 0} → Scene C F L → Given → Type 0
IsSceneOf s given = IsScene s.cat.now s.store.now s.q.now s.rel s.param s.outer.now given

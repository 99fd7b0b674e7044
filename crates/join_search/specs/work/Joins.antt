-- Joins of kept paths, and what is kept of them (PostgreSQL, src/backend/optimizer/README, Join Tree Construction;
-- src/backend/optimizer/path/joinrels.c and joinpath.c).
use Rattle.std.specs.Prelude.{◌≡◌, ℕ, List, All, AllPairs, Contains, Some, Vec}
use Rattle.pg_base.specs.Sets.{has}
use Rattle.pg_base.specs.declared.rel_set.RelSet.{RelSet}
use Rattle.catalog.specs.Contents.{Contents}
use Rattle.eq_classes.specs.Clauses.{one}
use Rattle.sql_query.specs.Queries.{Query}
use Rattle.plan_tree.specs.Plans.{Plan, sort, nest, merge, empty}
use Rattle.plan_tree.specs.Space.{IsPlanOf, IsSameSet}
use Rattle.plan_tree.specs.Least.{IsAdmissible, Dominates}
use Rattle.plan_tree.specs.work.Paths.{Path, IsPathOf}
use Rattle.plan_laws.specs.work.Useful.{IsBelow}
use Rattle.plan_tree.specs.declared.path.Path.{Path as Costed}
use Rattle.join_search.specs.work.Tables.{Fronts, front_at, paths_at, list_at, set_numbered}
use Rattle.join_search.specs.work.Sufficing.{HasSufficient}
use Rattle.join_search.specs.declared.table.Table.{Table}
use Rattle.join_search.specs.declared.useful.Asked.{Asked}
use Rattle.std.specs.Global.{Global}
use Rattle.join_search.specs.declared.table.Placed.{Placed}

-- a set of one relation alone
abbrev pub IsSingle : RelSet → Type 0
IsSingle s = (r : ℕ) × IsSameSet (has s.0) (one r)

-- the fronts of single relations are those of another table
abbrev pub HaveSameScans : Table → Table → Type 0
HaveSameScans t base = (s p : RelSet) → IsSingle s → front_at t s p ≡ front_at base s p

-- the plan of one of some paths
pub record IsPlanIn (paths : List Path) (t : Plan) : Type 0 where
  pub path : Path
  pub is_there : Contains paths path
  pub is_plan : path.tree ≡ t

-- the plan of one of some paths, or a sort of one
abbrev pub IsSideIn : List Path → Plan → Type 0
IsSideIn paths (sort keys input) = IsPlanIn paths input
IsSideIn paths t = IsPlanIn paths t

module _ (fronts : Fronts) where
  -- the plan of a path of some front
  pub record IsKept (t : Plan) : Type 0 where
    pub set : RelSet
    pub param : RelSet
    pub plan : IsPlanIn (fronts set param) t

  -- the plan of a path of some front, or a sort of one
  abbrev pub IsSideKept : Plan → Type 0
  IsSideKept (sort keys input) = IsKept input
  IsSideKept t = IsKept t

  -- a join of kept paths; a side of a merge may be a sort of one
  abbrev pub IsJoinOfKept : Plan → Type 0
  IsJoinOfKept (nest outer inner) = IsKept outer × IsKept inner
  IsJoinOfKept (merge keys outer inner) = IsSideKept outer × IsSideKept inner
  IsJoinOfKept t = ⊥

module _ (c : Contents) (q : Query) where
  -- a path of the query that stands at its own set and parameterisation, below the limit of costs
  pub record IsPathAt (s p : RelSet) (x : Path) : Type 0 where
    pub is_path : IsPathOf c q x
    pub admissible : IsAdmissible c q x.tree
    pub set : x.set ≡ s
    pub param : x.param ≡ p

  -- each path of some fronts is such a one
  pub record ArePlaced (fronts : Fronts) : Type 0 where
    pub paths : (s p : RelSet) → All (IsPathAt s p) (fronts s p)

  -- the fronts that a search begins with: at sets of one relation, each path at its own place
  pub record IsBase (t : Table) : Type 0 where
    pub single : (s p : RelSet) (front : List Costed) → front_at t s p ≡ Some front → IsSingle s
    pub placed : ArePlaced (paths_at t)

  -- a path of a front of joins
  pub record IsJoinPath (fronts : Fronts) (s p : RelSet) (x : Path) : Type 0 where
    pub stands : IsPathAt s p x
    pub sides : IsJoinOfKept fronts x.tree

  -- no plan of the one path dominates that of the other
  abbrev pub AreUndominated : List Path → Type 0
  AreUndominated paths = AllPairs (λ a b. ¬ Dominates c q a.tree b.tree × ¬ Dominates c q b.tree a.tree) paths

-- each join of kept paths below the limit that is a plan of the set has a path of the set's front that suffices for it
abbrev pub AreJoinsCovered : Contents → Query → Asked → Fronts → RelSet → Type 0
AreJoinsCovered c q asked fronts s = (t : Plan) → IsPlanOf c q (has s.0) empty t → IsBelow c q asked.limit t → IsJoinOfKept fronts t → HasSufficient c q asked (fronts s (record { 0 = 0 })) t

-- the fronts of single relations stay as they are
abbrev pub KeepsScans : List (Vec Placed Global) → List (Vec Placed Global) → Type 0
KeepsScans old new = (k : ℕ) → IsSingle (set_numbered k) → list_at new k ≡ list_at old k

-- only single relations have fronts
abbrev pub HasOnlyScans : Table → Type 0
HasOnlyScans t = (s p : RelSet) (f : List Costed) → front_at t s p ≡ Some f → IsSingle s

-- each set is covered
abbrev pub AreAllCovered : Contents → Query → Asked → Table → Type 0
AreAllCovered c q asked t = (s : RelSet) → AreJoinsCovered c q asked (paths_at t) s

-- each path of a set of several relations is a join of kept ones
abbrev pub HasOnlyJoins : Contents → Query → Table → Type 0
HasOnlyJoins c q t = (s p : RelSet) → ¬ IsSingle s → All (IsJoinPath c q (paths_at t) s p) (paths_at t s p)

-- of the paths of a set of several relations none dominates another
abbrev pub HasNoDominatedJoins : Contents → Query → Table → Type 0
HasNoDominatedJoins c q t = (s p : RelSet) → ¬ IsSingle s → AreUndominated c q (paths_at t s p)

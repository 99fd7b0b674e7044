-- Paths of one relation, from which joins are made (PostgreSQL, src/backend/optimizer/path/allpaths.c,
-- set_base_rel_pathlists). Own.
use Rattle.std.specs.Prelude.{◌≡◌, ℕ, Bool, true, List, All, ◌<◌, map}
use Rattle.pg_base.specs.Sets.{has}
use Rattle.pg_base.specs.declared.rel_set.RelSet.{RelSet}
use Rattle.catalog.specs.Contents.{Contents}
use Rattle.eq_classes.specs.Clauses.{Set, one}
use Rattle.eq_classes.specs.Parts.{is_param}
use Rattle.path_cost.specs.Estimates.{conditions_where}
use Rattle.sql_query.specs.Queries.{Query, width}
use Rattle.plan_tree.specs.work.Fronts.{AreDominated, IsOffer}
use Rattle.plan_tree.specs.work.Paths.{Path}
use Rattle.plan_tree.specs.Plans.{Plan}
use Rattle.plan_tree.specs.Space.{IsSameSet, others_named, IsPlanOf}
use Rattle.join_search.specs.work.Tables.{Fronts, front_at, paths_at}
use Rattle.pg_base.specs.declared.numbers.RelNo.{RelNo}
use Rattle.plan_tree.specs.work.Views.{path}
use Rattle.plan_tree.specs.declared.path.Path.{Path as Costed}
use Rattle.join_search.specs.declared.table.Table.{Table}

-- any plan
abbrev pub is_plan : Plan → Bool
is_plan t = true

-- each relation whose rows are given is named by the clauses that a scan of a relation tests since they are given
abbrev pub AreNamed : Query → ℕ → Set → Type 0
AreNamed q r param = (k : ℕ) → param k ≡ true → others_named r (conditions_where (is_param r param) q.classes.clauses) k ≡ true

module _ (c : Contents) (q : Query) where
  -- admissible paths of a set of relations with a parameterisation, of which some dominate each admissible plan of these
  pub record AreAllOf (set param : Set) (paths : List Path) : Type 0 where
    pub offers : All (IsOffer c q is_plan set param) paths
    pub dominated : AreDominated c q is_plan set param paths

  -- the fronts at a relation alone dominate each admissible scan of it, whatever its parameterisation
  pub record HaveScansOf (fronts : Fronts) (r : ℕ) : Type 0 where
    pub dominated : (s p : RelSet) → IsSameSet (has s.0) (one r) → AreDominated c q is_plan (one r) (has p.0) (fronts s p)

-- a relation has no scan with a parameterisation
abbrev pub HasNoScan : Contents → Query → RelNo → RelSet → Type 0
HasNoScan c q r p = (t : Plan) → ¬ IsPlanOf c q (one r.0) (has p.0) t

-- admissible paths of a relation with a parameterisation, of which some dominate each admissible scan of these
abbrev pub AreAllScans : Contents → Query → RelNo → RelSet → List Costed → Type 0
AreAllScans c q r p paths = AreAllOf c q (one r.0) (has p.0) (map path paths)

-- some paths of a table at a set dominate each admissible scan of a relation with a parameterisation
abbrev pub HasScansAt : Contents → Query → RelNo → RelSet → RelSet → Table → Type 0
HasScansAt c q r s p t = AreDominated c q is_plan (one r.0) (has p.0) (paths_at t s p)

-- the fronts of a table stay as they are but for those of one relation
abbrev pub ChangesOnlyScans : RelNo → Table → Table → Type 0
ChangesOnlyScans r old new = (t o : RelSet) → ¬ IsSameSet (has t.0) (one r.0) → front_at new t o ≡ front_at old t o

-- the fronts dominate each admissible scan of each relation
abbrev pub HasAllScans : Contents → Query → Table → Type 0
HasAllScans c q t = (r : ℕ) → r < width q → HaveScansOf c q (paths_at t) r

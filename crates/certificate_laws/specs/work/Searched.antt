-- The fronts that a search for every key and every cost leaves, and their paths in a list (PostgreSQL,
-- src/backend/optimizer/README, Join Tree Construction; the list is own).
use Rattle.std.specs.Prelude.{◌<◌, ℕ, true, List, All, AllPairs, Contains}
use Rattle.pg_base.specs.declared.rel_set.RelSet.{RelSet}
use Rattle.catalog.specs.Contents.{Contents}
use Rattle.cost_rules.specs.declared.parameters.TheConstants.{MOST_COST}
use Rattle.sql_query.specs.Queries.{Query, width}
use Rattle.pareto.specs.work.Front.{Unrelated}
use Rattle.plan_tree.specs.work.Paths.{Path, is_at_most}
use Rattle.planner.specs.join_search_Joins.{ArePlaced, AreJoinsCovered, IsJoinPath, IsSingle}
use Rattle.planner.specs.join_search_Tables.{Fronts}
use Rattle.planner.specs.join_search_useful_Asked.{Asked}
use Rattle.planner.specs.work.Bases.{HaveScansOf}

-- every list of keys counts, and whatever is admissible
abbrev pub all_asked : Asked
all_asked = record { every_key = true; limit = MOST_COST }

module _ (c : Contents) (q : Query) where
  -- each path stands at its own place; admissible scans and admissible joins of kept paths are dominated; where there is more
  -- than one relation there are joins of kept paths alone
  pub record IsSearched (fronts : Fronts) : Type 0 where
    pub placed : ArePlaced c q fronts
    pub scans : (r : ℕ) → r < width q → HaveScansOf c q fronts r
    pub covered : (s : RelSet) → AreJoinsCovered c q all_asked fronts s
    pub kept : (s p : RelSet) → ¬ IsSingle s → All (IsJoinPath c q fronts s p) (fronts s p)

-- the paths of some fronts: each stands in the list once, and no other does
pub record AreOfFronts (fronts : Fronts) (paths : List Path) : Type 0 where
  pub from : All (λ x. Contains (fronts x.set x.param) x) paths
  pub all : (s p : RelSet) → All (Contains paths) (fronts s p)
  pub apart : AllPairs (Unrelated is_at_most) paths

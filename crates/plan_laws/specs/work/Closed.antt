-- Working words beside those of `Closed`.
use Rattle.std.specs.Prelude.{◌≡◌, true, false}
use Rattle.plan_tree.specs.catalog_Contents.{Contents}
use Rattle.plan_tree.specs.sql_query_Queries.{Query}
use Rattle.plan_tree.specs.Plans.{Plan, is_sort}
use Rattle.plan_tree.specs.Space.{IsBuilt}
use Rattle.plan_tree.specs.Least.{IsAdmissible}
use Rattle.plan_laws.specs.Closed.{is_scan, AreKeptSides, IsUndercut}

module _ (c : Contents) (q : Query) (Kept : Plan → Type 0) where
  -- kept are plans of the space without a sort on top, some that dominate each admissible scan, and some that dominate
  -- each admissible join of kept plans
  pub record IsClosed : Type 0 where
    pub built : (t : Plan) → Kept t → IsBuilt c q t
    pub plain : (t : Plan) → Kept t → is_sort t ≡ false
    pub scans : (t : Plan) → is_scan t ≡ true → IsBuilt c q t → IsAdmissible c q t → IsUndercut c q Kept t
    pub joins : (t : Plan) → AreKeptSides c q Kept t → IsBuilt c q t → IsAdmissible c q t → IsUndercut c q Kept t

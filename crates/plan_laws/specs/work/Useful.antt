-- Plans compared by the keys that can still be of use, for the search of a least plan alone (PostgreSQL,
-- src/backend/optimizer/path/pathkeys.c, truncate_useless_pathkeys).
use Rattle.std.specs.Prelude.{◌≡◌, ◌<◌, ◌≤◌, ◌⊎◌, ◌&&◌, ℕ, Bool, true, false, not}
use Rattle.std.specs.List.{list_all}
use Rattle.plan_tree.specs.catalog_Contents.{Contents}
use Rattle.plan_tree.specs.sql_query_Queries.{Query, all_of_query}
use Rattle.plan_tree.specs.eq_classes_Clauses.{Set}
use Rattle.plan_tree.specs.eq_classes_Parts.{has_in}
use Rattle.plan_tree.specs.eq_classes_Listing.{class_at}
use Rattle.plan_tree.specs.pathkeys_Keys.{Keys, covers, order_keys}
use Rattle.plan_tree.specs.Plans.{Plan, sort, set_of, is_sort}
use Rattle.plan_tree.specs.Keys.{keys_of}
use Rattle.plan_tree.specs.Costs.{cost, price}
use Rattle.plan_tree.specs.Space.{IsLike, IsBuilt, HasKeys, IsFinished}
use Rattle.plan_tree.specs.Least.{IsAdmissible, IsStartupAtMost}
use Rattle.plan_laws.specs.Closed.{AreKeptSides, is_scan}

module _ (q : Query) where
  -- the relations of the query that are not in a set
  abbrev pub outside : Set → Set
  outside s k = all_of_query q k && not (s k)

  -- a class has a member outside a set, so that it may still join
  abbrev pub is_open : Set → ℕ → Bool
  is_open s n = has_in (class_at q.classes.classes n) (outside s)

  -- each class of a list is open
  abbrev pub are_open : Set → Keys → Bool
  are_open s keys = list_all (is_open s) keys

  -- a list of open classes, or the order keys; each list where every one counts
  abbrev pub IsOfUse : Bool → Set → Keys → Type 0
  IsOfUse every s keys = (every ≡ true) ⊎ ((are_open s keys ≡ true) ⊎ (keys ≡ order_keys q.classes q.order))

-- every : Bool is whether every list counts
module _ (c : Contents) (q : Query) (every : Bool) where
  -- one plan does for another: the same set and parameterisation, no greater cost, and its keys begin with each list of use
  -- that the other's begin with
  pub record Suffices (p other : Plan) : Type 0 where
    pub like : IsLike p other
    pub total : (cost c q p).total ≤ (cost c q other).total
    pub startup : IsStartupAtMost q.window (cost c q p).startup (cost c q other).startup
    pub keys : (ks : Keys) → IsOfUse q every (set_of other) ks → covers (keys_of c q other) ks ≡ true → covers (keys_of c q p) ks ≡ true

  -- one plan does for another as a side of a join: it suffices, and is sorted by each list of open classes by which the other
  -- is
  pub record StandsIn (p other : Plan) : Type 0 where
    pub suffices : Suffices p other
    pub has : (ks : Keys) → are_open q (set_of other) ks ≡ true → HasKeys c q other ks → HasKeys c q p ks

module _ (c : Contents) (q : Query) where
  -- an admissible plan whose floor is below a limit: what is made of it is of no lower price than its own costs are, by the
  -- rows of all relations
  pub record IsBelow (limit : ℕ) (p : Plan) : Type 0 where
    pub admissible : IsAdmissible c q p
    pub floor : price c q p < limit

  module _ (every : Bool) (Kept : Plan → Type 0) (limit : ℕ) where
    -- some kept plan suffices for a plan
    pub record HasEnough (t : Plan) : Type 0 where
      pub by' : Plan
      pub is_kept : Kept by'
      pub suffices : Suffices c q every by' t

    -- kept are plans of the space without a sort on top, some that suffice for each scan below the limit, and some that
    -- suffice for each join of kept plans below it
    pub record IsClosedBelow : Type 0 where
      pub built : (t : Plan) → Kept t → IsBuilt c q t
      pub plain : (t : Plan) → Kept t → is_sort t ≡ false
      pub scans : (t : Plan) → is_scan t ≡ true → IsBuilt c q t → IsBelow limit t → HasEnough t
      pub joins : (t : Plan) → AreKeptSides c q Kept t → IsBuilt c q t → IsBelow limit t → HasEnough t

  -- no finished plan over a kept one, with or without a sort on top, is of a lower price
  pub record IsLeastKept (Kept : Plan → Type 0) (b : Plan) : Type 0 where
    pub plain : (k : Plan) → Kept k → IsFinished c q k → IsAdmissible c q k → price c q b ≤ price c q k
    pub sorted : (keys : Keys) (k : Plan) → Kept k → IsFinished c q (sort keys k) → IsAdmissible c q (sort keys k) → price c q b ≤ price c q (sort keys k)

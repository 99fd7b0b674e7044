-- What a list of paths covers, and what is offered to it (PostgreSQL, src/backend/optimizer/util/pathnode.c, add_path).
use Rattle.std.specs.Prelude.{◌≡◌, ◌⊎◌, Bool, true, false, not, List, All, Contains}
use Rattle.sql_query.specs.catalog_Contents.{Contents}
use Rattle.eq_classes.specs.Clauses.{Set}
use Rattle.sql_query.specs.Queries.{Query}
use Rattle.plan_tree.specs.Plans.{Plan, bitmap}
use Rattle.plan_tree.specs.Space.{IsBuilt, IsPlanOf}
use Rattle.plan_tree.specs.Least.{IsAdmissible, Dominates}
use Rattle.plan_tree.specs.work.Paths.{Path, IsPathOf}

-- a plan is a bitmap scan of one relation, which gives rows in no order of keys
abbrev pub is_bitmap : Plan → Bool
is_bitmap (bitmap r p bits) = true
is_bitmap _ = false

-- a plan is no bitmap scan: of a relation these are offered before its bitmap scans
abbrev pub is_no_bitmap : Plan → Bool
is_no_bitmap t = not (is_bitmap t)

module _ (c : Contents) (q : Query) where
  -- each of a list is a path of the query
  abbrev pub ArePathsOf : List Path → Type 0
  ArePathsOf paths = All (IsPathOf c q) paths

  -- the plan of some path of a list dominates this one
  pub record HasDominating (paths : List Path) (t : Plan) : Type 0 where
    pub path : Path
    pub is_there : Contains paths path
    pub dominates : Dominates c q path.tree t

  -- a plan is dominated by the plan of some path of a list, where it is of the space and admissible
  abbrev pub IsServed : List Path → Plan → Type 0
  IsServed paths t = IsBuilt c q t → IsAdmissible c q t → HasDominating paths t

  -- each admissible plan of a set and a parameterisation that passes a test is dominated by the plan of some path of a list
  abbrev pub AreDominated : (Plan → Bool) → Set → Set → List Path → Type 0
  AreDominated test set param paths = (t : Plan) → IsPlanOf c q set param t → IsAdmissible c q t → test t ≡ true → HasDominating paths t

  -- each plan that the one list dominates the other does
  abbrev pub StayDominated : List Path → List Path → Type 0
  StayDominated old new = (t : Plan) → HasDominating old t → HasDominating new t

  -- a path of an admissible plan of a set and a parameterisation that passes a test
  pub record IsOffer (test : Plan → Bool) (set param : Set) (p : Path) : Type 0 where
    pub plan : IsPlanOf c q set param p.tree
    pub admissible : IsAdmissible c q p.tree
    pub passes : test p.tree ≡ true
    pub is_path : IsPathOf c q p

  -- each path stood in the list before or is such an offer
  abbrev pub AreOldOrOffers : (Plan → Bool) → Set → Set → List Path → List Path → Type 0
  AreOldOrOffers test set param old new = All (λ p. Contains old p ⊎ IsOffer test set param p) new

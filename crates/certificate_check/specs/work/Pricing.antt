-- Prices of the finished plans over a certificate's entries. Own.
use Rattle.std.specs.Prelude.{◌≡◌, Bool, true, false, Some}
use Rattle.catalog.specs.Contents.{Contents}
use Rattle.sql_query.specs.Queries.{Query}
use Rattle.pathkeys.specs.Keys.{order_keys}
use Rattle.plan_tree.specs.Costs.{cost, price}
use Rattle.plan_tree.specs.Least.{IsAdmissible}
use Rattle.plan_tree.specs.work.Paths.{kept_cost}
use Rattle.plan_tree.specs.Plans.{Plan}
use Rattle.plan_tree.specs.Space.{IsFinished}
use Rattle.plan_check.specs.Certificates.{Certificate, Entry, Side, finish_at, sorted_if}
use Rattle.entry_check.specs.plan_check_Beating.{IsRight}
use Rattle.cost_rules.specs.work.Worse.{IsNoWorse}
use Rattle.cost_rules.specs.declared.pair.Pair.{Pair}
use Rattle.cost_rules.specs.declared.prices.Price.{Price}

module _ (c : Contents) (q : Query) where
  -- a plan has a price
  pub record HasPrice (p : Plan) (x : Price) : Type 0 where
    pub amount_is : x.amount ≡ price c q p
    pub yes : x.admissible ≡ true → IsAdmissible c q p
    pub no : x.admissible ≡ false → ¬ IsAdmissible c q p

  -- a plan, sorted into the order asked for or not
  abbrev pub sorted_as_asked : Bool → Plan → Plan
  sorted_as_asked sorted p = sorted_if sorted (order_keys q.classes q.order) p

  -- a right entry, sorted into the order asked for or not, is a finished plan
  pub record IsFinishedEntry (e : Entry) (sorted : Bool) : Type 0 where
    pub input : Plan
    pub right : IsRight c q e input
    pub finished : IsFinished c q (sorted_as_asked sorted input)

  -- where such an entry is a finished plan, this is what its plan costs
  abbrev pub IsKeptCost : Entry → Bool → Pair → Type 0
  IsKeptCost e sorted pair =
      (p : Plan) → IsRight c q e p → IsFinished c q (sorted_as_asked sorted p) →
      pair ≡ kept_cost q.window (cost c q (sorted_as_asked sorted p))

  -- where it is one, this is its price
  abbrev pub IsPriceOfEntry : Entry → Bool → Price → Type 0
  IsPriceOfEntry e sorted x =
      (p : Plan) → IsRight c q e p → IsFinished c q (sorted_as_asked sorted p) → HasPrice (sorted_as_asked sorted p) x

  -- a side is no finished plan
  abbrev pub HasNoFinish : Certificate → Side → Type 0
  HasNoFinish t s = (p : Plan) → finish_at q t s ≡ Some p → ¬ IsFinished c q p

  -- a side is a finished plan with a price
  pub record IsPriced (t : Certificate) (s : Side) (x : Price) : Type 0 where
    pub plan : Plan
    pub is : finish_at q t s ≡ Some plan
    pub finished : IsFinished c q plan
    pub has : HasPrice plan x

  -- some side is one
  pub record IsSomePrice (t : Certificate) (x : Price) : Type 0 where
    pub side : Side
    pub priced : IsPriced t side x

  -- no price of a side is better
  abbrev pub IsLeastOnSide : Certificate → Side → Price → Type 0
  IsLeastOnSide t s least = (x : Price) → IsPriced t s x → IsNoWorse least x

  -- no price of any side is better
  abbrev pub IsLeastOnSides : Certificate → Price → Type 0
  IsLeastOnSides t least = (s : Side) (x : Price) → IsPriced t s x → IsNoWorse least x

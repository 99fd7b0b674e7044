-- What the plan of an entry is, in numbers. Own.
use Rattle.std.specs.Prelude.{◌≡◌, ℕ, cond, take, List, Option, Some}
use Rattle.catalog.specs.Contents.{Contents}
use Rattle.sql_query.specs.Queries.{Query}
use Rattle.plan_tree.specs.Costs.{cost, estimate}
use Rattle.plan_tree.specs.Least.{IsAdmissible}
use Rattle.plan_tree.specs.Plans.{Plan, index, index_only}
use Rattle.plan_tree.specs.Space.{IsFinished}
use Rattle.pathkeys.specs.Keys.{order_keys, Keys}
use Rattle.plan_check.specs.Certificates.{Certificate, Entry, Side, plan_at, plans_of, sorted_if, unfold_at}
use Rattle.plan_check.specs.Tables.{HasItsPlan, IsStartup}
use Rattle.plan_check.specs.work.Beating.{IsRight}
use Rattle.entry_check.specs.declared.numbers.Own.{Own}
use Rattle.entry_check.specs.declared.scans.ByIndex.{ByIndex}
use Rattle.plan_tree.specs.Keys.{scan_keys}

-- a scan by an index as a plan
abbrev pub tree_of : ByIndex → Plan
tree_of s = cond s.only (index_only s.rel s.index s.backward s.param) (index s.rel s.index s.backward s.param)

-- the plans of the entries before a place, from 0
abbrev pub plans_before : Query → Certificate → ℕ → List (Option Plan)
plans_before q t n = take n (plans_of q t)

module _ (c : Contents) (q : Query) where
  -- numbers are those of an admissible plan; the startup counts where the query has a window
  pub record AreNumbersOf (p : Plan) (x : Own) : Type 0 where
    pub admissible : IsAdmissible c q p
    pub startup : IsStartup q.window x.startup (cost c q p).startup
    pub total : x.cost ≡ (cost c q p).total
    pub rows : x.rows ≡ estimate c q p

  -- an entry has a plan, but for its numbers, which are these
  pub record IsOwn (e : Entry) (p : Plan) (x : Own) : Type 0 where
    pub has : HasItsPlan c q e p
    pub numbers : AreNumbersOf p x

  -- a node makes a plan, and an entry has it, but for its numbers, which are these
  pub record HasOwn (made : Option Plan) (e : Entry) (x : Own) : Type 0 where
    pub plan : Plan
    pub is : made ≡ Some plan
    pub own : IsOwn e plan x

  -- the node makes no plan that the entry has
  abbrev pub HasNone : Option Plan → Entry → Type 0
  HasNone made e = (p : Plan) → made ≡ Some p → ¬ HasItsPlan c q e p

  -- an entry is right for some plan
  pub record HasRight (e : Entry) : Type 0 where
    pub plan : Plan
    pub right : IsRight c q e plan

  -- a right entry stands for the plan of a number among some
  pub record HasPlanAt (plans : List (Option Plan)) (m : ℕ) (e : Entry) : Type 0 where
    pub plan : Plan
    pub is : plan_at plans m ≡ Some plan
    pub right : IsRight c q e plan

  -- a side that is a finished plan over the entry
  pub record IsFinishedSide (t : Certificate) (s : Side) (e : Entry) : Type 0 where
    pub input : Plan
    pub unfolds : unfold_at q t s.entry ≡ Some input
    pub right : IsRight c q e input
    pub finished : IsFinished c q (sorted_if s.sorted (order_keys q.classes q.order) input)

-- the classes by which the rows of a scan by an index are sorted
abbrev pub keys_by_index : Contents → Query → ByIndex → Keys
keys_by_index c q s = scan_keys c q s.rel s.index s.backward s.param

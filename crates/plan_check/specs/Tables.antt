-- When a certificate is a table of a query: no admissible plan is left out, and the best one is the least. Own.
use Rattle.std.specs.Prelude.{◌≡◌, ◌≢◌, ◌≤◌, ℕ, suc, true, slice_get, Option, Some, None}
use Rattle.pg_base.specs.Sets.{has}
use Rattle.plan_tree.specs.catalog_Contents.{Contents}
use Rattle.plan_tree.specs.sql_query_Queries.{Query}
use Rattle.plan_tree.specs.sql_query_window_Window.{Window}
use Rattle.plan_tree.specs.Plans.{Plan}
use Rattle.plan_tree.specs.Keys.{keys_of}
use Rattle.plan_tree.specs.Costs.{cost, estimate, price}
use Rattle.plan_tree.specs.Space.{IsBuilt, IsPlanOf, IsFinished}
use Rattle.plan_tree.specs.Least.{IsAdmissible, Dominates}
use Rattle.plan_laws.specs.Closed.{AreKeptSides, IsUndercut, is_scan}
use Rattle.plan_check.specs.Certificates.{Side, Entry, Certificate, unfold_at, finish_at}

-- the startup is compared where the query has a window; where it has none, it is not written
abbrev pub IsStartup : Option Window → ℕ → ℕ → Type 0
IsStartup None a b = Unit {0}
IsStartup (Some w) a b = a ≡ b

-- an entry of a certificate stands for the plan
pub record IsEntryPlan (q : Query) (t : Certificate) (p : Plan) : Type 0 where
  pub number : ℕ
  pub unfolds : unfold_at q t number ≡ Some p

module _ (c : Contents) (q : Query) where
  -- what an entry says beside its numbers is its plan's: the plan is admissible and of the space for the entry's set and
  -- parameterisation, and the keys are the plan's
  pub record HasItsPlan (e : Entry) (p : Plan) : Type 0 where
    pub plan : IsPlanOf c q (has e.set.0) (has e.param.0) p
    pub admissible : IsAdmissible c q p
    pub keys : e.keys ≡ keys_of c q p

  -- the numbers of an entry are those of its plan
  pub record HasPlanNumbers (e : Entry) (p : Plan) : Type 0 where
    pub startup : IsStartup q.window e.startup (cost c q p).startup
    pub total : e.cost ≡ (cost c q p).total
    pub rows : e.rows ≡ estimate c q p

  -- the entry at a place, from 0, is of the space, with its own set, parameterisation, costs, rows and keys
  pub record IsEntryAt (t : Certificate) (n : ℕ) (e : Entry) : Type 0 where
    pub plan : Plan
    pub unfolds : unfold_at q t (suc n) ≡ Some plan
    pub has : HasItsPlan e plan
    pub numbers : HasPlanNumbers e plan

  -- an entry dominates a plan
  abbrev pub IsDominated : Certificate → Plan → Type 0
  IsDominated t p = IsUndercut c q (IsEntryPlan q t) p

  -- a finished plan is an entry, as it stands or sorted into the order asked for
  pub record IsOver (t : Certificate) (p : Plan) : Type 0 where
    pub side : Side
    pub is : finish_at q t side ≡ Some p
    pub finished : IsFinished c q p

  -- a plan of no greater price than some others: it is admissible where one of them is, and is of no greater price than
  -- any of them that is; where none is, of no greater price than any
  pub record IsLeastAmong (Other : Plan → Type 0) (p : Plan) : Type 0 where
    pub admissible : (o : Plan) → Other o → IsAdmissible c q o → IsAdmissible c q p × (price c q p ≤ price c q o)
    pub dearer : ((o : Plan) → Other o → ¬ IsAdmissible c q o) → (o : Plan) → Other o → price c q p ≤ price c q o

  -- the best plan: a finished one over an entry, and the least of these
  pub record IsBest (t : Certificate) : Type 0 where
    pub plan : Plan
    pub is : finish_at q t t.best ≡ Some plan
    pub finished : IsFinished c q plan
    pub least : IsLeastAmong (IsOver t) plan

  -- a certificate is a table of the query: each entry is one of the space, each admissible scan and each admissible join
  -- of entries, with sides as they stand or sorted, is dominated by an entry, no entry by another, and the best plan is
  -- the least
  pub record IsPlanTable (t : Certificate) : Type 0 where
    pub entries : (n : ℕ) (e : Entry) → slice_get t.entries n ≡ Some e → IsEntryAt t n e
    pub scans : (p : Plan) → is_scan p ≡ true → IsBuilt c q p → IsAdmissible c q p → IsDominated t p
    pub joins : (p : Plan) → AreKeptSides c q (IsEntryPlan q t) p → IsBuilt c q p → IsAdmissible c q p → IsDominated t p
    pub apart : (m n : ℕ) (p o : Plan) → unfold_at q t m ≡ Some p → unfold_at q t n ≡ Some o → m ≢ n → ¬ Dominates c q p o
    pub best : IsBest t

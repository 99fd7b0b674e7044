-- What a certificate without fault says. Own.
use Rattle.std.specs.Prelude.{◌≡◌, ◌≤◌, ℕ, suc, false, slice_get, Option, Some, MatchOption}
use Rattle.catalog.specs.Contents.{Contents}
use Rattle.sql_query.specs.Queries.{Query}
use Rattle.sql_query.specs.Tuples.{Tuple}
use Rattle.sql_query.specs.WellBound.{IsWellBound}
use Rattle.sql_query.specs.Worlds.{IsWorld, World}
use Rattle.plan_tree.specs.Costs.{price}
use Rattle.plan_tree.specs.Least.{IsAdmissible}
use Rattle.plan_tree.specs.Plans.{Plan, is_sort, set_of}
use Rattle.plan_tree.specs.Run.{run}
use Rattle.plan_tree.specs.work.Sorted.{AreSorted}
use Rattle.plan_tree.specs.Space.{IsBuilt, IsFinished}
use Rattle.plan_check.specs.Certificates.{Certificate, Entry, finish_at, unfold_at}
use Rattle.plan_check.specs.Tables.{IsDominated, IsLeastAmong, IsOver}
use Rattle.entry_check.specs.plan_check_Reasons.{HasBest, IsNotBest}

module _ (c : Contents) (q : Query) where
  -- no finished plan that is admissible has a smaller price
  abbrev pub CostsLeast : Plan → Type 0
  CostsLeast best =
      (p : Plan) → IsFinished c q p → IsAdmissible c q p → IsAdmissible c q best × (price c q best ≤ price c q p)

  -- no admissible plan is left out: each that is no sort is dominated by an entry
  abbrev pub LeavesNoneOut : Certificate → Type 0
  LeavesNoneOut t = (p : Plan) → IsBuilt c q p → is_sort p ≡ false → IsAdmissible c q p → IsDominated c q t p

  -- the best plan is a finished one of the least price
  abbrev pub HasCheapest : Certificate → Type 0
  HasCheapest t = (best : Plan) → finish_at q t t.best ≡ Some best → IsFinished c q best × CostsLeast best

  -- the tuples of each entry's plan are sorted by the keys that the entry says, in each world of the catalogue in which the
  -- query is well bound, whatever rows the plan is given
  abbrev pub AreSortedByKeys : Certificate → Type 0
  AreSortedByKeys t =
      (w : World) → w.contents ≡ c → IsWorld w → IsWellBound c q →
      (n : ℕ) (e : Entry) (p : Plan) → slice_get t.entries n ≡ Some e → unfold_at q t (suc n) ≡ Some p →
      (o : Tuple) → AreSorted w q (set_of p) e.keys (run w q p o)

  -- the best plan is the least of those over the entries, or else this is its price and a smaller one
  abbrev pub JudgesBest : Certificate → Option (ℕ × ℕ) → Type 0
  JudgesBest t result =
      MatchOption result ((best : HasBest c q t) → IsLeastAmong c q (IsOver c q t) best.plan) (λ r. IsNotBest c q t r.0 r.1)

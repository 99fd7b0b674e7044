-- What an offer of joins does to the front of a set. Own.
use Rattle.std.specs.Prelude.{◌≡◌, ◌≤◌, ◌<◌, ℕ, List, All, Contains}
use Rattle.pg_base.specs.declared.rel_set.RelSet.{RelSet}
use Rattle.catalog.specs.Contents.{Contents}
use Rattle.cost_rules.specs.work.Costs.{IsAtMost}
use Rattle.cost_rules.specs.declared.pair.Pair.{Pair}
use Rattle.sql_query.specs.Queries.{Query}
use Rattle.pathkeys.specs.Keys.{Keys}
use Rattle.plan_tree.specs.Keys.{keys_of}
use Rattle.plan_tree.specs.Plans.{Plan, nest, merge}
use Rattle.plan_tree.specs.work.Paths.{Path}
use Rattle.plan_tree.specs.work.Fronts.{StayDominated}
use Rattle.join_search.specs.work.Tables.{Fronts, none, paths_at}
use Rattle.join_search.specs.work.Joins.{IsJoinPath, IsPlanIn, IsSideIn}
use Rattle.join_search.specs.work.Splits.{IsDivided, IsJoinOf, inners_of, kept_of, outers_of}
use Rattle.join_search.specs.work.Sufficing.{IsServed}
use Rattle.join_search.specs.declared.splits.Split.{Split}
use Rattle.join_search.specs.declared.splits.Target.{Target}
use Rattle.join_search.specs.declared.useful.Asked.{Asked}

-- a path of a list, and none costs less
pub record IsCheapest (paths : List Path) (p : Path) : Type 0 where
  pub is_there : Contains paths p
  pub least : All (λ o. p.cost ≤ o.cost) paths

module _ (c : Contents) (q : Query) where
  -- joins were offered to the front of a set: it still has joins of kept paths alone, and what was dominated still is
  pub record TakesJoins (fronts : Fronts) (s : RelSet) (old new : List Path) : Type 0 where
    pub paths : All (IsJoinPath c q fronts s none) new
    pub still : StayDominated c q old new

module _ (c : Contents) (q : Query) (asked : Asked) where
  -- the nested loops of some outer paths with an inner plan
  abbrev pub AreEachServed : List Path → List Path → Plan → Type 0
  AreEachServed front outers i = All (λ o. IsServed c q asked front (nest o.tree i)) outers

  -- the nested loops of some outer paths with the inner paths that start before a cost
  abbrev pub AreEarlyServed : List Path → List Path → ℕ → List Path → Type 0
  AreEarlyServed front outers startup inners = All (λ i. i.startup < startup → AreEachServed front outers i.tree) inners

  -- the nested loop of each of some with each of others
  abbrev pub AreNestsServed : List Path → List Path → List Path → Type 0
  AreNestsServed front outers inners = (o i : Plan) → IsPlanIn outers o → IsPlanIn inners i → IsServed c q asked front (nest o i)

  -- the merges by a list of classes of the paths of two lists, or of sorts of them
  abbrev pub AreMergesServed : List Path → List Path → List Path → Keys → Type 0
  AreMergesServed front outers inners keys = (o i : Plan) → IsSideIn outers o → IsSideIn inners i → IsServed c q asked front (merge keys o i)

  -- all joins of two sets
  pub record AreJoinsServed (fronts : Fronts) (front : List Path) (a b : RelSet) : Type 0 where
    pub nests : (p : RelSet) → AreNestsServed front (fronts a none) (fronts b p)
    pub merges : (keys : Keys) → AreMergesServed front (fronts a none) (fronts b none) keys

-- joins of a split were offered to the front of its set
abbrev pub Takes : Split → List Path → List Path → Type 0
Takes j old new = TakesJoins j.cat.now j.q.now (paths_at j.table.now) j.set old new

-- a join of the sides of a split
abbrev pub Serves : Split → List Path → Plan → Type 0
Serves j front t = IsServed j.cat.now j.q.now j.asked front t

-- the nested loops of each outer path of a split with one inner plan
abbrev pub ServesEach : Split → List Path → Plan → Type 0
ServesEach j front i = AreEachServed j.cat.now j.q.now j.asked front (outers_of j) i

-- the nested loops of each outer path of a split with the inner paths of a parameterisation that start before a cost
abbrev pub ServesEarly : Split → List Path → ℕ → RelSet → Type 0
ServesEarly j front startup p = AreEarlyServed j.cat.now j.q.now j.asked front (outers_of j) startup (inners_of j p)

-- the nested loops of each outer path of a split with each inner path of a parameterisation
abbrev pub ServesNests : Split → List Path → RelSet → Type 0
ServesNests j front p = AreNestsServed j.cat.now j.q.now j.asked front (outers_of j) (inners_of j p)

-- the merges by a list of the sides of a split
abbrev pub ServesMerges : Split → List Path → Keys → Type 0
ServesMerges j front keys = AreMergesServed j.cat.now j.q.now j.asked front (outers_of j) (inners_of j none) keys

-- each plan of the set with these keys that costs no less is served
abbrev pub ServesFrom : Split → List Path → Pair → Keys → Type 0
ServesFrom j front least keys = (t : Plan) (n : Pair) → IsJoinOf j t → n ≡ kept_of j t → IsAtMost least n →
    keys ≡ keys_of j.cat.now j.q.now t → Serves j front t

-- joins were offered to the front of a set
abbrev pub TargetTakes : Target → List Path → List Path → Type 0
TargetTakes t old new = TakesJoins t.cat.now t.q.now (paths_at t.table.now) t.set old new

-- all joins of two sides of it
abbrev pub AreTargetServed : Target → List Path → RelSet → RelSet → Type 0
AreTargetServed t front a b = AreJoinsServed t.cat.now t.q.now t.asked (paths_at t.table.now) front a b

-- all joins of one part of it with the rest
abbrev pub IsPartServed : Target → List Path → RelSet → Type 0
IsPartServed t front a = (b : RelSet) → IsDivided t.set a b → AreTargetServed t front a b

-- Merge joins of two sets: their lists of classes, their sides, and what they are computed from (PostgreSQL,
-- src/backend/optimizer/path/joinpath.c, sort_inner_and_outer; that every list is tried is own).
use Rattle.std.specs.Prelude.{◌≡◌, ◌≤◌, ◌<◌, ◌+◌, ◌^◌, ◌-◌, ◌&&◌, ◌++◌, ℕ, Bool, true, false, not, cond, nat_eq, List, [], ◌∷◌, All, Contains, filter, length, map, min}
use Rattle.std.specs.List.{list_any, flat_map}
use Rattle.pg_base.specs.Sets.{has}
use Rattle.catalog.specs.Contents.{Contents}
use Rattle.cost_rules.specs.Costs.{merge_cost}
use Rattle.cost_rules.specs.work.Costs.{IsEstimate, capped_pair}
use Rattle.cost_rules.specs.declared.pair.Pair.{Pair}
use Rattle.cost_rules.specs.declared.parameters.TheConstants.{MOST_COST}
use Rattle.eq_classes.specs.Parts.{is_join}
use Rattle.path_cost.specs.Costs.{operators}
use Rattle.path_cost.specs.Estimates.{conditions_where, is_pair_of, pairs}
use Rattle.pathkeys.specs.Keys.{Keys, covers}
use Rattle.sql_query.specs.Queries.{Query}
use Rattle.plan_tree.specs.Costs.{cost, estimate}
use Rattle.plan_tree.specs.Least.{IsAdmissible}
use Rattle.plan_tree.specs.Paths.{startup_kept}
use Rattle.plan_tree.specs.work.Paths.{Path, kept_cost}
use Rattle.plan_tree.specs.Plans.{Plan, sort, merge}
use Rattle.plan_tree.specs.Space.{HasKeys, IsBuilt, IsMergeList}
use Rattle.plan_tree.specs.work.Views.{path}
use Rattle.plan_tree.specs.declared.path.Path.{Path as Costed}
use Rattle.join_search.specs.declared.merges.MergeWork.{MergeWork}
use Rattle.join_search.specs.declared.sides.Side.{Side}
use Rattle.join_search.specs.declared.splits.Split.{Split}
use Rattle.join_search.specs.declared.useful.Asked.{Asked}
use Rattle.join_search.specs.work.Joins.{IsSideIn}
use Rattle.join_search.specs.work.Splits.{inners_of, outers_of}
use Rattle.join_search.specs.work.Tables.{none}
use Rattle.join_search.specs.work.Sufficing.{IsServed, floor_in}

-- a list with one more class, each of some that it has not
abbrev pub longer : List ℕ → Keys → List Keys
longer ns keys = map (λ n. keys ++ n ∷ []) (filter (λ n. not (list_any (nat_eq n) keys)) ns)

-- each of some lists with one more class, each of some that it has not
abbrev pub all_longer : List ℕ → List Keys → List Keys
all_longer ns lists = flat_map (longer ns) lists

-- the lists of one of some classes
abbrev pub ones : List ℕ → List Keys
ones ns = all_longer ns ([] ∷ [])

-- the lists of two different ones of some classes
abbrev pub twos : List ℕ → List Keys
twos ns = all_longer ns (ones ns)

-- the lists of one, two or three different ones of some classes
abbrev pub lists_of : List ℕ → List Keys
lists_of ns = (ones ns ++ twos ns) ++ all_longer ns (twos ns)

-- the plan of a path, or its sort by the list
abbrev pub side_of : Keys → Plan → Bool → Plan
side_of keys t sorted = cond sorted (sort keys t) t

-- the path of a side
abbrev pub side_path : Side → Path
side_path s = path s.path.now

-- the plan of a side of a merge by the list
abbrev pub side_plan : Keys → Side → Plan
side_plan keys s = side_of keys (side_path s).tree s.sorted

-- the keys of that plan
abbrev pub side_keys : Keys → Side → Keys
side_keys keys s = cond s.sorted keys (side_path s).keys

-- a path of some whose keys begin with the list, or a path that is to be sorted
pub record IsSideOf (keys : Keys) (paths : List Path) (p : Path) (sorted : Bool) : Type 0 where
  pub is_there : Contains paths p
  pub begins : sorted ≡ false → covers p.keys keys ≡ true

-- what a path costs, or more than any path where its keys do not begin with the list
abbrev pub cost_by : Keys → Costed → ℕ
cost_by keys p = cond (covers p.keys keys) p.cost (2 ^ 64 - 1)

-- a path of least cost among those whose keys begin with the list
pub record IsCheapestBy (keys : Keys) (paths : List Path) (p : Path) : Type 0 where
  pub is_there : Contains paths p
  pub begins : covers p.keys keys ≡ true
  pub least : All (λ o. covers o.keys keys ≡ true → p.cost ≤ o.cost) paths

-- a path costs no less, neither before its first row nor in all
abbrev pub IsNoCheaper : Pair → Path → Type 0
IsNoCheaper n p = (n.startup ≤ p.startup) × (n.total ≤ p.cost)

module _ (c : Contents) (q : Query) where
  -- a side that costs no more in all than any other of an admissible merge
  pub record IsBestSide (keys : Keys) (paths : List Path) (p : Path) (sorted : Bool) : Type 0 where
    pub side : IsSideOf keys paths p sorted
    pub least : (t : Plan) → IsSideIn paths t → IsBuilt c q t → HasKeys c q t keys → IsAdmissible c q t → (cost c q (side_of keys p.tree sorted)).total ≤ (cost c q t).total

  -- the pairs of rows of a merge, and its operators for each of them
  pub record IsMergeWork (j : Split) (keys : Keys) (w : MergeWork) : Type 0 where
    pub pairs : w.pairs ≡ pairs c q.range q.classes (has j.outer.0) (has j.inner.0) keys
    pub estimate : IsEstimate w.pairs
    pub ops : w.ops ≡ min (operators (conditions_where (λ k. is_join (has j.outer.0) (has j.inner.0) k && not (is_pair_of keys k)) q.classes.clauses)) (2 ^ 64 - 1)

module _ (c : Contents) (q : Query) (asked : Asked) where
  -- the merges of each outer side with one inner side
  abbrev pub AreOutersServed : List Path → List Path → Keys → Plan → Type 0
  AreOutersServed front outers keys i = (o : Plan) → IsSideIn outers o → IsServed c q asked front (merge keys o i)

  -- the merges of each outer side with each inner side that starts before a cost
  abbrev pub AreEarlyServed : List Path → List Path → List Path → Keys → ℕ → Type 0
  AreEarlyServed front outers inners keys startup =
      (i : Plan) → IsSideIn inners i → HasKeys c q i keys → startup_kept q.window (cost c q i).startup < startup → AreOutersServed front outers keys i

  -- the merges of each outer side with each inner path whose keys begin with the list, where it starts before a cost
  abbrev pub ArePlainEarlyServed : List Path → List Path → Keys → ℕ → List Path → Type 0
  ArePlainEarlyServed front outers keys startup inners = All (λ i. covers i.keys keys ≡ true → i.startup < startup → AreOutersServed front outers keys i.tree) inners

  -- the merges of the outer paths that are not sorted, with one inner side
  abbrev pub ArePlainServed : List Path → Keys → Plan → List Path → Type 0
  ArePlainServed front keys i outers = All (λ o. covers o.keys keys ≡ true → IsServed c q asked front (merge keys o.tree i)) outers

-- the merges of each outer side of a split with one inner side
abbrev pub ServesOuters : Split → List Path → Keys → Plan → Type 0
ServesOuters j front keys i = AreOutersServed j.cat.now j.q.now j.asked front (outers_of j) keys i

-- the merges of each outer side of a split with each inner side that starts before a cost
abbrev pub ServesEarlySides : Split → List Path → Keys → ℕ → Type 0
ServesEarlySides j front keys startup =
    AreEarlyServed j.cat.now j.q.now j.asked front (outers_of j) (inners_of j none) keys startup

-- the merges of each outer side of a split with each inner path whose keys begin with the list, where it starts before a cost
abbrev pub ServesEarlyPlain : Split → List Path → Keys → ℕ → Type 0
ServesEarlyPlain j front keys startup =
    ArePlainEarlyServed j.cat.now j.q.now j.asked front (outers_of j) keys startup (inners_of j none)

-- the merges of the outer paths of a split that are not sorted, with one inner side
abbrev pub ServesPlain : Split → List Path → Keys → Plan → Type 0
ServesPlain j front keys i = ArePlainServed j.cat.now j.q.now j.asked front keys i (outers_of j)

-- a list by which the sides of a split are merged
abbrev pub IsListOf : Split → Keys → Type 0
IsListOf j keys = IsMergeList j.cat.now j.q.now (has j.outer.0) (has j.inner.0) keys

-- an outer side of such merges
abbrev pub IsOuterSide : Split → Keys → Side → Type 0
IsOuterSide j keys s = IsSideOf keys (outers_of j) (side_path s) s.sorted

-- an inner one
abbrev pub IsInnerSide : Split → Keys → Side → Type 0
IsInnerSide j keys s = IsSideOf keys (inners_of j none) (side_path s) s.sorted

-- the startup of the sort of a plan, as a path keeps it
abbrev pub sort_startup : Split → Keys → Plan → ℕ
sort_startup j keys t = startup_kept j.q.now.window (cost j.cat.now j.q.now (sort keys t)).startup

-- the merge of two sides by a list
abbrev pub merge_of : Keys → Side → Side → Plan
merge_of keys outer inner = merge keys (side_plan keys outer) (side_plan keys inner)

-- what the merge of two plans costs with so many pairs and operators, as a path keeps it, cut to at most 10^18
abbrev pub merge_with : Split → Keys → Plan → Plan → ℕ → ℕ → Pair
merge_with j keys o i pairs n = let c = j.cat.now in let q = j.q.now in
    capped_pair (kept_cost q.window (merge_cost (cost c q o) (cost c q i) (estimate c q o) (estimate c q i) (length keys) pairs n))

-- what costs no less than two sides together is past the limit of a search
abbrev pub ArePast : Split → Pair → Pair → Type 0
ArePast j o i = (n : Pair) → o.startup + i.startup ≤ n.startup → o.total + i.total ≤ n.total → n.total < MOST_COST → floor_in j.q.now.window j.whole n < j.asked.limit → ⊥

-- What each step of the search does for a split, a target and a task, over paths of the program. Own.
use Rattle.std.specs.Prelude.{◌≡◌, ◌<◌, ◌≤◌, ◌+◌, ◌-◌, ◌^◌, ◌++◌, ℕ, All, Bool, Contains, List, Option, false, map, min, option_map, take, true}
use Rattle.std.specs.Option.{option_to_list}
use Rattle.pg_base.specs.Sets.{has}
use Rattle.pg_base.specs.declared.rel_set.RelSet.{RelSet}
use Rattle.catalog.specs.Contents.{Contents}
use Rattle.cost_rules.specs.work.Costs.{capped_pair}
use Rattle.cost_rules.specs.declared.pair.Pair.{Pair}
use Rattle.cost_rules.specs.declared.parameters.TheConstants.{MOST_COST}
use Rattle.eq_classes.specs.Parts.{joining_from}
use Rattle.eq_classes.specs.declared.classes.ClassNo.{ClassNo}
use Rattle.path_cost.specs.Estimates.{set_rows}
use Rattle.pathkeys.specs.work.Finding.{class_numbers}
use Rattle.pathkeys.specs.Keys.{Keys, covers}
use Rattle.sql_query.specs.Queries.{Query}
use Rattle.plan_tree.specs.Costs.{cost}
use Rattle.plan_tree.specs.work.Fronts.{HasDominating, StayDominated}
use Rattle.plan_tree.specs.work.Paths.{Path, kept_cost}
use Rattle.plan_tree.specs.Plans.{Plan, merge, nest, sort}
use Rattle.plan_tree.specs.Space.{IsMergeList}
use Rattle.plan_tree.specs.work.Views.{path}
use Rattle.plan_tree.specs.declared.path.Path.{Path as Costed}
use Rattle.join_search.specs.work.Joins.{AreUndominated, IsJoinOfKept, IsJoinPath, IsPathAt, IsPlanIn}
use Rattle.join_search.specs.work.Merges.{IsBestSide, ServesOuters, ServesPlain, all_longer, cost_by, longer, merge_of, merge_with, side_path, side_plan, sort_startup}
use Rattle.join_search.specs.work.Nests.{nest_with}
use Rattle.join_search.specs.work.Offers.{AreJoinsServed, AreNestsServed, AreTargetServed, Serves, ServesEach, ServesFrom, ServesMerges, TakesJoins}
use Rattle.join_search.specs.work.Past.{HasNoJoins}
use Rattle.join_search.specs.work.Splits.{IsDivided, outers_of}
use Rattle.join_search.specs.work.Sufficing.{HasSufficient, StaySufficient, floor_in}
use Rattle.join_search.specs.work.Tables.{Fronts, none, paths_at}
use Rattle.join_search.specs.declared.merges.MergeWork.{MergeWork}
use Rattle.join_search.specs.declared.sides.Side.{Side}
use Rattle.join_search.specs.declared.splits.Split.{Split}
use Rattle.join_search.specs.declared.splits.Target.{Target}
use Rattle.join_search.specs.declared.splits.Task.{Task}
use Rattle.join_search.specs.declared.table.Table.{Table}
use Rattle.join_search.specs.declared.useful.Asked.{Asked}

-- the estimated rows of a set
abbrev pub set_rows_of : Contents → Query → RelSet → ℕ
set_rows_of c q s = set_rows c q.range q.classes (has s.0)

-- all joins of the two sides of a split
abbrev pub ServesJoins : Split → List Costed → Type 0
ServesJoins j front = AreJoinsServed j.cat.now j.q.now j.asked (paths_at j.table.now) (map path front) j.outer j.inner

-- what was dominated for a target still is
abbrev pub StaysDominated : Target → List Costed → List Costed → Type 0
StaysDominated at old new = StayDominated at.cat.now at.q.now (map path old) (map path new)

-- some path suffices for that of a path
abbrev pub HasSufficientFor : Target → List Costed → Costed → Type 0
HasSufficientFor at paths made = HasSufficient at.cat.now at.q.now at.asked (map path paths) (path made).tree

-- what had a sufficient path still has one
abbrev pub StaysEnough : Target → List Costed → List Costed → Type 0
StaysEnough at old new = StaySufficient at.cat.now at.q.now at.asked (map path old) (map path new)

-- no path of a target dominates another
abbrev pub AreTargetUndominated : Target → List Costed → Type 0
AreTargetUndominated at paths = AreUndominated at.cat.now at.q.now (map path paths)

-- all joins of its set have what suffices for them
abbrev pub IsTargetServed : Target → List Costed → Type 0
IsTargetServed at paths = (a b : RelSet) → IsDivided at.set a b → AreTargetServed at (map path paths) a b

-- no path of a task dominates another
abbrev pub AreTaskUndominated : Task → List Costed → Type 0
AreTaskUndominated task paths = AreUndominated task.cat.now task.q.now (map path paths)

-- where a part of a set is one side, no join of a task is wanted
abbrev pub LacksJoins : Task → Table → RelSet → RelSet → Type 0
LacksJoins task table set = HasNoJoins task.cat.now task.q.now task.asked (paths_at table) set

-- paths of a set
abbrev pub AreTaskPaths : Task → RelSet → List Costed → Type 0
AreTaskPaths task set paths = All (IsPathAt task.cat.now task.q.now set none) (map path paths)

-- joins of the set from a table's paths
abbrev pub AreTaskJoins : Task → Table → RelSet → List Costed → Type 0
AreTaskJoins task table set paths = All (IsJoinPath task.cat.now task.q.now (paths_at table) set none) (map path paths)

-- all joins of the set have what suffices for them
abbrev pub IsSetServed : Task → Table → RelSet → List Costed → Type 0
IsSetServed task table set paths =
    (a b : RelSet) → IsDivided set a b → AreJoinsServed task.cat.now task.q.now task.asked (paths_at table) (map path paths) a b

-- the numbers of some classes, and of one more where there is one
abbrev pub numbers_with : List ClassNo → Option ClassNo → List ℕ
numbers_with found class = class_numbers found ++ option_to_list (option_map (λ n. n.0) class)

-- the first four classes that join two sets
abbrev pub first_four_joining : Query → RelSet → RelSet → List ℕ
first_four_joining q a b = take 4 (joining_from (has a.0) (has b.0) 0 q.classes.classes)

-- a list with one more class, each of some
abbrev pub longer_by : List ClassNo → Keys → List Keys
longer_by classes list = longer (class_numbers classes) list

-- each of some lists with one more class, each of some
abbrev pub all_longer_by : List ClassNo → List Keys → List Keys
all_longer_by classes lists = all_longer (class_numbers classes) lists

-- every list of a merge of two sets is one of some
abbrev pub HasEachMergeList : Contents → Query → RelSet → RelSet → List Keys → Type 0
HasEachMergeList c q a b lists = (ks : Keys) → IsMergeList c q (has a.0) (has b.0) ks → Contains lists ks

-- what the merge of two sides costs, as a path keeps it, from what all merges by the list have in common
abbrev pub IsKeptOfMerge : Split → Keys → Side → Side → MergeWork → Pair → Type 0
IsKeptOfMerge j keys outer inner work own =
    (n : ℕ) → work.ops ≡ min n (2 ^ 64 - 1) → own ≡ merge_with j keys (side_plan keys outer) (side_plan keys inner) work.pairs n

-- the merge of two sides
abbrev pub ServesMerge : Split → List Costed → Keys → Side → Side → Type 0
ServesMerge j front keys outer inner = Serves j (map path front) (merge_of keys outer inner)

-- the merge of an outer path as it stands, where its keys begin with the list
abbrev pub ServesInOrder : Split → List Costed → Keys → Costed → Side → Type 0
ServesInOrder j front keys outer inner =
    covers outer.keys keys ≡ true → Serves j (map path front) (merge keys (path outer).tree (side_plan keys inner))

-- the merges of each outer path as it stands, where its keys begin with the list, with one inner side
abbrev pub ServesPlainSide : Split → List Costed → Keys → Side → Type 0
ServesPlainSide j front keys inner = ServesPlain j (map path front) keys (side_plan keys inner)

-- the merges of each outer path, sorted, with one inner side
abbrev pub ServesSortedSide : Split → List Costed → Keys → Side → Type 0
ServesSortedSide j front keys inner =
    (o : Plan) → IsPlanIn (outers_of j) o → Serves j (map path front) (merge keys (sort keys o) (side_plan keys inner))

-- the merges of each outer side with one inner side
abbrev pub ServesSide : Split → List Costed → Keys → Side → Type 0
ServesSide j front keys inner = ServesOuters j (map path front) keys (side_plan keys inner)

-- the merges of each outer side with an inner path as it stands, where it starts before a cost
abbrev pub ServesIfEarly : Split → List Costed → Keys → Costed → ℕ → Type 0
ServesIfEarly j front keys inner startup =
    covers inner.keys keys ≡ true → inner.startup < startup → ServesOuters j (map path front) keys (path inner).tree

-- the merges of each outer side with an inner path sorted, where that starts before a cost
abbrev pub ServesSortIfEarly : Split → List Costed → Keys → Costed → ℕ → Type 0
ServesSortIfEarly j front keys inner startup =
    sort_startup j keys (path inner).tree < startup → ServesOuters j (map path front) keys (sort keys (path inner).tree)

-- whatever the front, no merge of a split is wanted
abbrev pub NeedsNoMerges : Split → Type 0
NeedsNoMerges j = (front : List Path) (keys : Keys) → ServesMerges j front keys

-- what the nested loop of two paths costs, as a path keeps it, from its operators
abbrev pub IsKeptOfNest : Split → Costed → Costed → ℕ → Pair → Type 0
IsKeptOfNest j outer inner ops own =
    (n : ℕ) → ops ≡ min n (2 ^ 64 - 1) → own ≡ nest_with j.cat.now j.q.now (path outer).tree (path inner).tree n

-- the nested loop of two paths
abbrev pub ServesNest : Split → List Costed → Costed → Costed → Type 0
ServesNest j front outer inner = Serves j (map path front) (nest (path outer).tree (path inner).tree)

-- the nested loops of each outer path with an inner one, where that starts before a cost
abbrev pub ServesEachIfEarly : Split → List Costed → Costed → ℕ → Type 0
ServesEachIfEarly j front inner startup = inner.startup < startup → ServesEach j (map path front) (path inner).tree

-- joins with keys that cost no less than a least cost may be passed over
abbrev pub MayPassOver : Split → List Costed → Pair → Keys → Type 0
MayPassOver j front least keys = ServesFrom j (map path front) least keys

-- a join was offered to a front
abbrev pub TakesOne : Split → Plan → List Costed → List Costed → Type 0
TakesOne j t old new = (kept : Fronts) → IsJoinOfKept kept t → All (IsJoinPath j.cat.now j.q.now kept j.set none) (map path old) →
    TakesJoins j.cat.now j.q.now kept j.set (map path old) (map path new)

-- some path of a front dominates a plan, or is it
abbrev pub FrontHasDominating : Split → List Costed → Plan → Type 0
FrontHasDominating j front t = HasDominating j.cat.now j.q.now (map path front) t

-- what costs no less than two parts together is past a limit
abbrev pub AreSumsPast : Query → Asked → ℕ → Pair → Pair → Type 0
AreSumsPast q asked whole a b = (n : Pair) → a.startup + b.startup ≤ n.startup → a.total + b.total ≤ n.total →
    n.total < MOST_COST → floor_in q.window whole n < asked.limit → ⊥

-- whatever the front, no nested loop of two sets is wanted whose inner side has a parameterisation
abbrev pub NeedsNoNestsAt : Task → Table → RelSet → RelSet → RelSet → Type 0
NeedsNoNestsAt task table a b p = (front : List Path) →
    AreNestsServed task.cat.now task.q.now task.asked front (paths_at table a none) (paths_at table b p)

-- whatever the front and the parameterisation, no nested loop of two sets is wanted whose inner side has that parameterisation
abbrev pub NeedsNoNests : Task → Table → RelSet → RelSet → Type 0
NeedsNoNests task table a b = (front : List Path) (p : RelSet) →
    AreNestsServed task.cat.now task.q.now task.asked front (paths_at table a none) (paths_at table b p)

-- no list is one of a merge of two sets
abbrev pub HasNoMergeList : Task → RelSet → RelSet → Type 0
HasNoMergeList task a b = (ks : Keys) → IsMergeList task.cat.now task.q.now (has a.0) (has b.0) ks → ⊥

-- whatever the front, no join of two sets is wanted
abbrev pub NeedsNoJoins : Task → Table → RelSet → RelSet → Type 0
NeedsNoJoins task table a b =
    (front : List Path) → AreJoinsServed task.cat.now task.q.now task.asked (paths_at table) front a b

-- what a side costs, as a path keeps it, by whatever list it may be sorted
abbrev pub IsSideCost : Contents → Query → Side → Pair → Type 0
IsSideCost c q s own = (keys : Keys) → own ≡ capped_pair (kept_cost q.window (cost c q (side_plan keys s)))

-- a path costs no more than any other of some whose keys begin with a list
abbrev pub IsLeastBy : Keys → List Costed → Costed → Type 0
IsLeastBy keys paths p = All (λ o. cost_by keys p ≤ cost_by keys o) paths

-- the keys of no path begin with a list
abbrev pub HasNoneBy : Keys → List Costed → Type 0
HasNoneBy keys paths = All (λ p. covers p.keys keys ≡ false) (map path paths)

-- a side is of a path, sorted or not
abbrev pub IsSideWith : Side → Costed → Bool → Type 0
IsSideWith s p sorted = (s.path.now ≡ p) × (s.sorted ≡ sorted)

-- a side of least cost among some paths
abbrev pub IsBestSideOf : Contents → Query → Keys → List Costed → Side → Type 0
IsBestSideOf c q keys paths s = IsBestSide c q keys (map path paths) (side_path s) s.sorted

-- A set of relations divided into the two sides of a join (PostgreSQL, src/backend/optimizer/README, Join Tree
-- Construction; that every division is tried is own).
use Rattle.std.specs.Prelude.{◌≡◌, ◌<◌, ◌≤◌, ◌⊎◌, ℕ, List, [], All, Contains, map}
use Rattle.pg_base.specs.Sets.{has}
use Rattle.pg_base.specs.declared.rel_set.RelSet.{RelSet}
use Rattle.catalog.specs.Contents.{Contents}
use Rattle.cost_rules.specs.work.Costs.{IsEstimate, capped_pair}
use Rattle.cost_rules.specs.declared.pair.Pair.{Pair}
use Rattle.eq_classes.specs.Holding.{AreApart}
use Rattle.eq_classes.specs.Parts.{union}
use Rattle.path_cost.specs.Estimates.{set_rows}
use Rattle.pathkeys.specs.Keys.{order_keys}
use Rattle.plan_tree.specs.Costs.{cost}
use Rattle.plan_tree.specs.work.Paths.{Path, kept_cost}
use Rattle.plan_tree.specs.Plans.{Plan, empty}
use Rattle.plan_tree.specs.work.Reads.{IsOverTables}
use Rattle.plan_tree.specs.Space.{IsEmpty, IsPlanOf, IsSameSet}
use Rattle.plan_tree.specs.work.Views.{path}
use Rattle.sql_query.specs.Queries.{Query}
use Rattle.plan_laws.specs.work.Useful.{outside}
use Rattle.join_search.specs.work.Joins.{ArePlaced, IsJoinPath, IsPathAt}
use Rattle.join_search.specs.work.Sufficing.{AreWholeRows}
use Rattle.join_search.specs.work.Tables.{Fronts, none, paths_at}
use Rattle.join_search.specs.declared.splits.Split.{Split}
use Rattle.join_search.specs.declared.splits.Target.{Target}
use Rattle.join_search.specs.declared.splits.Task.{Task}

-- a set is not empty
abbrev pub HasSome : RelSet → Type 0
HasSome s = ¬ IsEmpty (has s.0)

-- two sets that are not empty, have no relation in common and make up a third
pub record IsDivided (s a b : RelSet) : Type 0 where
  pub outer : HasSome a
  pub inner : HasSome b
  pub apart : AreApart (has a.0) (has b.0)
  pub all : IsSameSet (has s.0) (union (has a.0) (has b.0))

-- a set divided into two, with the estimated rows of the set and of its parts, and the relations that are in neither
pub record IsSplit (c : Contents) (q : Query) (j : Split) : Type 0 where
  pub divided : IsDivided j.set j.outer j.inner
  pub rows : j.rows ≡ set_rows c q.range q.classes (has j.set.0)
  pub outer_rows : j.outer_rows ≡ set_rows c q.range q.classes (has j.outer.0)
  pub inner_rows : j.inner_rows ≡ set_rows c q.range q.classes (has j.inner.0)
  pub outer_estimate : IsEstimate j.outer_rows
  pub inner_estimate : IsEstimate j.inner_rows
  pub outside : IsSameSet (has j.outside.0) (outside q (has j.set.0))

-- what a search is over: a query over tables, with the rows of all its relations and its order keys
pub record IsTask (t : Task) : Type 0 where
  pub query : IsOverTables t.cat.now t.q.now
  pub whole : AreWholeRows t.cat.now t.q.now t.whole
  pub order : t.order.now ≡ order_keys t.q.now.classes t.q.now.order

-- what a search at one set is over: its query and order keys, the set, its rows and the other relations, and fronts of which
-- each path stands at its place
pub record IsTarget (t : Target) : Type 0 where
  pub query : IsOverTables t.cat.now t.q.now
  pub whole : AreWholeRows t.cat.now t.q.now t.whole
  pub order : t.order.now ≡ order_keys t.q.now.classes t.q.now.order
  pub placed : ArePlaced t.cat.now t.q.now (paths_at t.table.now)
  pub rows : t.rows ≡ set_rows t.cat.now t.q.now.range t.q.now.classes (has t.set.0)
  pub outside : IsSameSet (has t.outside.0) (outside t.q.now (has t.set.0))

-- what a search of one division of a set is over: its query and order keys, the division, and sides that have the paths of the
-- fronts
pub record IsOver (j : Split) : Type 0 where
  pub query : IsOverTables j.cat.now j.q.now
  pub whole : AreWholeRows j.cat.now j.q.now j.whole
  pub order : j.order.now ≡ order_keys j.q.now.classes j.q.now.order
  pub placed : ArePlaced j.cat.now j.q.now (paths_at j.table.now)
  pub split : IsSplit j.cat.now j.q.now j
  pub outers : map path j.outers.now ≡ paths_at j.table.now j.outer none
  pub inners : map path j.inners.now ≡ paths_at j.table.now j.inner none

-- the paths of the outer side
abbrev pub outers_of : Split → List Path
outers_of j = paths_at j.table.now j.outer none

-- the paths of the inner side at a parameterisation
abbrev pub inners_of : Split → RelSet → List Path
inners_of j p = paths_at j.table.now j.inner p

-- paths of the set
abbrev pub ArePathsOfSet : Split → List Path → Type 0
ArePathsOfSet j paths = All (IsPathAt j.cat.now j.q.now j.set none) paths

-- paths of the set that are joins of kept ones
abbrev pub AreJoinsOf : Split → List Path → Type 0
AreJoinsOf j paths = All (IsJoinPath j.cat.now j.q.now (paths_at j.table.now) j.set none) paths

-- a plan of the set that is given no rows
abbrev pub IsJoinOf : Split → Plan → Type 0
IsJoinOf j t = IsPlanOf j.cat.now j.q.now (has j.set.0) empty t

-- the cost of a plan as a path keeps it, cut to at most 10^18
abbrev pub kept_of : Split → Plan → Pair
kept_of j t = capped_pair (kept_cost j.q.now.window (cost j.cat.now j.q.now t))

-- a path of the outer side
abbrev pub IsOuterOf : Split → Path → Type 0
IsOuterOf j x = IsPathAt j.cat.now j.q.now j.outer none x

-- paths of a set whose joins are looked for
abbrev pub AreTargetPaths : Target → List Path → Type 0
AreTargetPaths t paths = All (IsPathAt t.cat.now t.q.now t.set none) paths

-- paths of a set whose joins are looked for that are joins of kept ones
abbrev pub AreTargetJoins : Target → List Path → Type 0
AreTargetJoins t paths = All (IsJoinPath t.cat.now t.q.now (paths_at t.table.now) t.set none) paths

-- of the sets below a number, each that has paths is one of some
abbrev pub HasEachFilled : Fronts → ℕ → List RelSet → Type 0
HasEachFilled fronts n sets = (s : RelSet) → 1 ≤ s.0 → s.0 < n → (fronts s none ≡ []) ⊎ Contains sets s

-- where a part of a set is one side, the other one has no paths
abbrev pub HasBareRest : Fronts → RelSet → RelSet → Type 0
HasBareRest fronts set part = (b : RelSet) → IsDivided set part b → (p : RelSet) → fronts b p ≡ []

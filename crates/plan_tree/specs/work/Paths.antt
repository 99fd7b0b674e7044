-- Working words beside those of `Paths`.
use Rattle.std.specs.Prelude.{◌≡◌, ℕ, Bool, ◌&&◌, nat_eq, nat_le, Option}
use Rattle.pg_base.specs.Sets.{has}
use Rattle.pg_base.specs.declared.rel_set.RelSet.{RelSet}
use Rattle.sql_query.specs.catalog_Contents.{Contents}
use Rattle.cost_rules.specs.Costs.{pair}
use Rattle.cost_rules.specs.declared.pair.Pair.{Pair}
use Rattle.sql_query.specs.Queries.{Query}
use Rattle.sql_query.specs.declared.window.Window.{Window}
use Rattle.pathkeys.specs.Keys.{Keys, covers}
use Rattle.plan_tree.specs.Plans.{Plan, set_of, param_of}
use Rattle.plan_tree.specs.Keys.{keys_of}
use Rattle.plan_tree.specs.Costs.{cost, estimate}
use Rattle.plan_tree.specs.Space.{IsSameSet, IsPlanOf, IsFinished}
use Rattle.plan_tree.specs.Paths.{startup_kept}

-- a plan with its set and its parameterisation, what it costs before its first row and in all, its estimated rows and its keys
pub record Path : Type 0 where
  pub tree : Plan
  pub set : RelSet
  pub param : RelSet
  pub startup : ℕ
  pub cost : ℕ
  pub rows : ℕ
  pub keys : Keys

-- what a path keeps of a cost: that startup, and the total
abbrev pub kept_cost : Option Window → Pair → Pair
kept_cost w cost = pair (startup_kept w cost.startup) cost.total

-- what a path keeps of the cost of its plan
abbrev pub cost_kept : Contents → Query → Plan → Pair
cost_kept c q t = kept_cost q.window (cost c q t)

-- the set, the numbers and the keys of a path are those of its plan
pub record HasItsNumbers (c : Contents) (q : Query) (p : Path) : Type 0 where
  pub set : IsSameSet (has p.set.0) (set_of p.tree)
  pub param : IsSameSet (has p.param.0) (param_of p.tree)
  pub startup : p.startup ≡ startup_kept q.window (cost c q p.tree).startup
  pub cost : p.cost ≡ (cost c q p.tree).total
  pub rows : p.rows ≡ estimate c q p.tree
  pub keys : p.keys ≡ keys_of c q p.tree

-- a path of a query: its plan is of the space for its set and parameterisation
pub record IsPathOf (c : Contents) (q : Query) (p : Path) : Type 0 where
  pub plan : IsPlanOf c q (has p.set.0) (has p.param.0) p.tree
  pub numbers : HasItsNumbers c q p

-- a path whose plan is finished; it may have a sort on top
pub record IsFinishedPath (c : Contents) (q : Query) (p : Path) : Type 0 where
  pub finished : IsFinished c q p.tree
  pub numbers : HasItsNumbers c q p

-- one path may take another's place: equal set and parameterisation, neither number greater, keys that begin with the other's
abbrev pub is_at_most : Path → Path → Bool
is_at_most a b =
    nat_eq a.set.0 b.set.0 && (nat_eq a.param.0 b.param.0 && (nat_le a.startup b.startup && (nat_le a.cost b.cost && covers a.keys b.keys)))

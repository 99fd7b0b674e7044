-- What a nested loop is computed from. Own.
use Rattle.std.specs.Prelude.{◌≡◌, ◌^◌, ◌-◌, ◌&&◌, ℕ, List, length, min, nat_lt}
use Rattle.pg_base.specs.Sets.{has}
use Rattle.pg_base.specs.declared.rel_set.RelSet.{RelSet}
use Rattle.pg_expr.specs.work.AtomSets.{contains}
use Rattle.catalog.specs.Contents.{Contents}
use Rattle.cost_rules.specs.Costs.{nest_cost}
use Rattle.cost_rules.specs.work.Costs.{capped_pair}
use Rattle.cost_rules.specs.declared.pair.Pair.{Pair}
use Rattle.eq_classes.specs.Holding.{IsWithin}
use Rattle.eq_classes.specs.Listing.{clause_at}
use Rattle.path_cost.specs.Costs.{operators}
use Rattle.path_cost.specs.Estimates.{conditions_where}
use Rattle.sql_query.specs.Queries.{Query}
use Rattle.plan_tree.specs.Costs.{cost, estimate}
use Rattle.plan_tree.specs.work.Paths.{Path, kept_cost}
use Rattle.plan_tree.specs.Plans.{Plan, joins}
use Rattle.join_search.specs.declared.splits.Split.{Split}
use Rattle.join_search.specs.work.Joins.{IsPathAt}

-- a set of clauses has those that a nested loop of an outer set with a plan tests
abbrev pub AreTested : Query → RelSet → Plan → List ℕ → Type 0
AreTested q a t set = (k : ℕ) → contains set k ≡ nat_lt k (length q.classes.clauses) && joins (has a.0) t (clause_at q.classes.clauses k)

module _ (c : Contents) (q : Query) where
  -- a path that may be the inner one of two sets: what it is given is of the outer set
  pub record IsInner (j : Split) (x : Path) : Type 0 where
    pub stands : IsPathAt c q j.inner x.param x
    pub given : IsWithin (has x.param.0) (has j.outer.0)

-- the operators of the clauses that nested loops of an outer set with a plan test, cut to 2^64 - 1
abbrev pub nest_operators : Query → RelSet → Plan → ℕ
nest_operators q a t = min (operators (conditions_where (joins (has a.0) t) q.classes.clauses)) (2 ^ 64 - 1)

-- what the nested loop of two plans costs with so many operators, as a path keeps it, cut to at most 10^18
abbrev pub nest_with : Contents → Query → Plan → Plan → ℕ → Pair
nest_with c q o i n =
    capped_pair (kept_cost q.window (nest_cost (cost c q o) (cost c q i) (estimate c q o) (estimate c q i) n))

-- a path that may be the inner one of a split
abbrev pub IsInnerOf : Split → Path → Type 0
IsInnerOf j x = IsInner j.cat.now j.q.now j x

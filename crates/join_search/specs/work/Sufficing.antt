-- Paths that suffice for plans, as far as is asked of a search (PostgreSQL, src/backend/optimizer/path/pathkeys.c,
-- truncate_useless_pathkeys; the limit is own).
use Rattle.std.specs.Prelude.{◌≡◌, ℕ, true, List, Option, None, Some, Contains, ◌<◌, IsTrue, take}
use Rattle.catalog.specs.Contents.{Contents}
use Rattle.cost_rules.specs.Costs.{price_of}
use Rattle.cost_rules.specs.work.Costs.{IsEstimate}
use Rattle.cost_rules.specs.declared.pair.Pair.{Pair}
use Rattle.eq_classes.specs.Clauses.{Set}
use Rattle.pathkeys.specs.Keys.{Keys, covers}
use Rattle.sql_query.specs.Queries.{Query}
use Rattle.sql_query.specs.declared.window.Window.{Window}
use Rattle.plan_tree.specs.Costs.{asked, query_rows}
use Rattle.plan_tree.specs.work.Paths.{Path}
use Rattle.plan_tree.specs.Plans.{Plan}
use Rattle.plan_tree.specs.Space.{IsBuilt, IsSameSet}
use Rattle.plan_laws.specs.work.Useful.{IsBelow, IsOfUse, Suffices, are_open, outside}
use Rattle.join_search.specs.declared.useful.Asked.{Asked}
use Rattle.pg_base.specs.Sets.{has}
use Rattle.pg_base.specs.declared.rel_set.RelSet.{RelSet}
use Rattle.cost_rules.specs.declared.parameters.TheConstants.{MOST_COST}
use Rattle.eq_classes.specs.declared.classes.ClassNo.{ClassNo}
use Rattle.pathkeys.specs.work.Finding.{class_numbers}

-- what a plan of a cost costs at least in whatever is made of it: the total, or under a window the price of such costs by
-- the rows of all relations
abbrev pub floor_in : Option Window → ℕ → Pair → ℕ
floor_in None whole cost = cost.total
floor_in (Some w) whole cost = price_of cost (asked w whole) whole

-- a number is that of the rows of all relations
pub record AreWholeRows (c : Contents) (q : Query) (n : ℕ) : Type 0 where
  pub rows : n ≡ query_rows c q
  pub estimate : IsEstimate n

-- a part of a key list begins with each list of use at a set with which the whole begins
abbrev pub IsPartOfUse : Query → Asked → Set → Keys → Keys → Type 0
IsPartOfUse q asked s keys part = (ks : Keys) → IsOfUse q asked.every_key s ks → covers keys ks ≡ true → covers part ks ≡ true

module _ (c : Contents) (q : Query) (asked : Asked) where
  -- the plan of some path of a list suffices for a plan
  pub record HasSufficient (paths : List Path) (t : Plan) : Type 0 where
    pub path : Path
    pub is_there : Contains paths path
    pub suffices : Suffices c q asked.every_key path.tree t

  -- the plan of some path of a list suffices for a plan, where this is of the space and below the limit
  abbrev pub IsServed : List Path → Plan → Type 0
  IsServed paths t = IsBuilt c q t → IsBelow c q asked.limit t → HasSufficient paths t

  -- for each plan for which the one list has a sufficient path the other has one
  abbrev pub StaySufficient : List Path → List Path → Type 0
  StaySufficient old new = (t : Plan) → HasSufficient old t → HasSufficient new t

-- a cost is at the limit of all costs, or at that of the search, where all relations give so many rows
abbrev pub IsCostPast : Query → Asked → ℕ → Pair → Type 0
IsCostPast q asked whole own = own.total < MOST_COST → floor_in q.window whole own < asked.limit → ⊥

-- the first n classes of a list begin with each list of open classes with which the whole begins; the relations outside are
-- given
abbrev pub BeginsWithOpen : Query → RelSet → List ClassNo → ℕ → Type 0
BeginsWithOpen q rest list n = (s : Set) (ks : Keys) → IsSameSet (has rest.0) (outside q s) → IsTrue (are_open q s ks) →
    IsTrue (covers (class_numbers list) ks) → IsTrue (covers (take n (class_numbers list)) ks)

-- a part of a key list begins with each list of use, where the relations outside are given
abbrev pub IsPartOutside : Query → Asked → RelSet → Keys → Keys → Type 0
IsPartOutside q asked rest keys part = (s : Set) → IsSameSet (has rest.0) (outside q s) → IsPartOfUse q asked s keys part

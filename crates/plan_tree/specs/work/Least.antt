-- Working words beside those of `Least`.
use Rattle.std.specs.Prelude.{◌≡◌, ◌≤◌, true}
use Rattle.sql_query.specs.catalog_Contents.{Contents}
use Rattle.sql_query.specs.Queries.{Query}
use Rattle.pathkeys.specs.Keys.{Keys, covers}
use Rattle.plan_tree.specs.Plans.{Plan}
use Rattle.plan_tree.specs.Keys.{keys_of}
use Rattle.plan_tree.specs.Costs.{cost}
use Rattle.plan_tree.specs.Space.{IsLike, HasKeys}
use Rattle.plan_tree.specs.Least.{IsStartupAtMost}

-- one plan may stand in the place of another as a side of a join: it is like it, costs no more, its keys begin with the
-- other's, and it is sorted by each list by which the other is
pub record StandsFor (c : Contents) (q : Query) (p other : Plan) : Type 0 where
  pub like : IsLike p other
  pub total : (cost c q p).total ≤ (cost c q other).total
  pub startup : IsStartupAtMost q.window (cost c q p).startup (cost c q other).startup
  pub covered : covers (keys_of c q p) (keys_of c q other) ≡ true
  pub has : (keys : Keys) → HasKeys c q other keys → HasKeys c q p keys

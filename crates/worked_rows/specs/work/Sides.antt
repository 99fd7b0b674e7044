-- Sides of a merge.
use Rattle.std.specs.Prelude.{◌≡◌}
use Rattle.sql_query.specs.catalog_Contents.{Contents}
use Rattle.sql_query.specs.Queries.{Query}
use Rattle.pathkeys.specs.Keys.{Keys}
use Rattle.plan_tree.specs.Plans.{Plan}
use Rattle.plan_tree.specs.Space.{IsBuilt, IsMerge}
use Rattle.scan_exec.specs.work.Plans.{IsScan, param_set}

-- scans that are given no rows, which a merge may join by these keys
pub record AreSides (c : Contents) (q : Query) (keys : Keys) (outer inner : Plan) : Type 0 where
  pub outer_scan : IsScan outer
  pub inner_scan : IsScan inner
  pub outer_built : IsBuilt c q outer
  pub inner_built : IsBuilt c q inner
  pub outer_whole : (param_set outer).0 ≡ 0
  pub inner_whole : (param_set inner).0 ≡ 0
  pub merge : IsMerge c q keys outer inner

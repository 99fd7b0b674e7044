-- Lists of tuples sorted by keys (PostgreSQL, src/backend/optimizer/README, PathKeys).
use Rattle.std.specs.Prelude.{List}
use Rattle.eq_classes.specs.Clauses.{Set}
use Rattle.sql_query.specs.Queries.{Query}
use Rattle.sql_query.specs.Worlds.{World}
use Rattle.sql_query.specs.Tuples.{Tuple, value_at}
use Rattle.pathkeys.specs.Keys.{Keys}
use Rattle.pathkeys.specs.work.Sorted.{IsSortedByKeys}

-- no tuple of the list is after a later one by the first members inside a set of the classes in turn
abbrev pub AreSorted : World → Query → Set → Keys → List Tuple → Type 0
AreSorted w q set keys = IsSortedByKeys (value_at w q) q.classes set keys

-- What is read and done in the worlds that a script reaches. Own.
use Rattle.std.specs.Prelude.{List, All}
use Rattle.sql_query.specs.WellBound.{IsWellBound}
use Rattle.group_query.specs.Grouping.{IsWellGrouped}
use Rattle.sql_query.specs.Worlds.{World, empty_world}
use Rattle.catalog.specs.Contents.{Contents}
use Rattle.store.specs.Actions.{Action, idle, make, build, size, describe, fill, gather, answer, explain, certify, advise, verify, follow, answer_groups, explain_groups}
use Rattle.statements.specs.Scripts.{Worked, world_after}

-- the world in which the statement behind these is worked
abbrev pub reached : List Worked → World
reached before = world_after empty_world before

-- the queries of an action, but for one that groups, are bound to the catalogue
abbrev pub IsBoundIn : Contents → Action → Type 0
IsBoundIn c idle = Unit {0}
IsBoundIn c (make name names columns) = Unit {0}
IsBoundIn c (build name x) = Unit {0}
IsBoundIn c (size t rows pages) = Unit {0}
IsBoundIn c (describe t column s) = Unit {0}
IsBoundIn c (fill t s) = Unit {0}
IsBoundIn c (gather t) = Unit {0}
IsBoundIn c (answer q) = IsWellBound c q
IsBoundIn c (explain q) = IsWellBound c q
IsBoundIn c (certify q) = IsWellBound c q
IsBoundIn c (advise most candidates queries) = All (IsWellBound c) queries
IsBoundIn c (verify q block) = IsWellBound c q
IsBoundIn c (follow q block) = IsWellBound c q
IsBoundIn c (answer_groups g) = Unit {0}
IsBoundIn c (explain_groups g) = Unit {0}

-- the query of an action that groups is well grouped over the catalogue
abbrev pub AreGroupsBoundIn : Contents → Action → Type 0
AreGroupsBoundIn c (answer_groups g) = IsWellGrouped c g
AreGroupsBoundIn c (explain_groups g) = IsWellGrouped c g
AreGroupsBoundIn c _ = Unit {0}

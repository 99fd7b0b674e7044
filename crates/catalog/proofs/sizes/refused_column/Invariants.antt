use Rattle.std.proofs.Common.{All, map, take}
use Rattle.catalog.specs.work.Known.{statistics}
use Rattle.catalog.specs.Statistics.{AreAllowed}
use Rattle.catalog.proofs.sizes.refused_column.Given as goal

abbrev pub invariant-loop-column : goal.invariant-loop-column
invariant-loop-column l = All AreAllowed (map statistics (take l.column-index l.columns))

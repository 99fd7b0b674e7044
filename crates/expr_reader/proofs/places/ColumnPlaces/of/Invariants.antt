use Rattle.std.proofs.Common.{take}
use Rattle.expr_reader.specs.work.Places.{AreFirst}
use Rattle.expr_reader.proofs.places.ColumnPlaces.of.Given as goal

-- the places of the columns before it are noted
abbrev pub invariant-loop-n : goal.invariant-loop-n
invariant-loop-n l = AreFirst (take l.n l.columns) l.first

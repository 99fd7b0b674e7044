use Rattle.std.proofs.Common.{take}
use Rattle.pg_base.specs.Names.{AreDistinct}
use Rattle.catalog.proofs.names.first_repeat.Given as goal

abbrev pub invariant-loop-n : goal.invariant-loop-n
invariant-loop-n l = AreDistinct (take l.n l.names)

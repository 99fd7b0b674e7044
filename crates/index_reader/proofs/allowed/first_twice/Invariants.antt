use Rattle.std.proofs.Common.{take}
use Rattle.catalog.specs.work.Entries.{index_of}
use Rattle.catalog.specs.Indexes.{AreDifferentColumns, columns_of}
use Rattle.index_reader.proofs.allowed.first_twice.Given as goal

abbrev pub invariant-loop-n : goal.invariant-loop-n
invariant-loop-n l = AreDifferentColumns (take l.n (columns_of (index_of l.def)))

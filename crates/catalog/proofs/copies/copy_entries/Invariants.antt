use Rattle.std.proofs.Common.{take}
use Rattle.catalog.proofs.CopyLemmas.{AreCopies}
use Rattle.catalog.proofs.copies.copy_entries.Given as goal

abbrev pub invariant-loop-n : goal.invariant-loop-n
invariant-loop-n g l = AreCopies g.V.Copied.same (take l.n l.map.entries) l.copied.entries

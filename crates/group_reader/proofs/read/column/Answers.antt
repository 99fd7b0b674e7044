use Rattle.std.proofs.Common.{refl}
use Rattle.group_reader.proofs.WordLemmas.{bare-column}
use Rattle.group_reader.proofs.read.column.Goals as goal

pub returns-then-not-takes_mark-clause-read : goal.returns-then-not-takes_mark-clause-read
returns-then-not-takes_mark-clause-read c = λ x rest ends is.
    bare-column x rest _ _ _ _ c.in_ok-first.ensures.read (c.if-not-takes_mark.ensures.left refl) (c.if-not-takes_mark.ensures.other refl) is

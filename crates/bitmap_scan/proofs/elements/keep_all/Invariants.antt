use Rattle.std.proofs.Common.{take}
use Rattle.bitmap_scan.proofs.KeptLemmas.{AreKept}
use Rattle.bitmap_scan.proofs.elements.keep_all.Given as goal

abbrev pub invariant-loop-e : goal.invariant-loop-e
invariant-loop-e l = AreKept l.cat l.q l.at.rel l.at.param (take l.e-index l.elements) l.kept.items

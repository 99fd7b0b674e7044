use Rattle.std.proofs.Common.{◌≡◌, ◌++◌, drop, map}
use Rattle.bitmap_scan.specs.work.Chosen.{marked}
use Rattle.bitmap_scan.proofs.chosen.chosen_by.Given as goal

abbrev pub invariant-loop-k : goal.invariant-loop-k
invariant-loop-k l = map (λ k. k.now) l.chosen.items ++ marked l.left (drop l.k-index l.kept) ≡ marked l.fn.mask l.kept

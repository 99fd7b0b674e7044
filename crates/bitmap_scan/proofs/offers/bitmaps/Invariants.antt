use Rattle.bitmap_scan.proofs.OfferLemmas.{AreOffered}
use Rattle.bitmap_scan.proofs.offers.bitmaps.Given as goal
use Rattle.std.proofs.Common.{map}
use Rattle.plan_tree.specs.work.Views.{path}
use Rattle.bitmap_scan.specs.work.ElementTrees.{tree_in}

abbrev pub invariant-loop-mask : goal.invariant-loop-mask
invariant-loop-mask l = AreOffered l.cat l.q l.fn.r l.fn.p (map tree_in l.kept.items) (map path l.initial.front) (map path l.front) l.mask

use Rattle.std.proofs.Common.{◌≡◌, length, map, take}
use Rattle.plan_tree.specs.work.Views.{element}
use Rattle.scan_cover.specs.work.Trees.{AreKept, element_in}
use Rattle.scan_cover.proofs.elements.keep_all.Given as goal

-- the elements before the place are kept
abbrev pub invariant-loop-n : goal.invariant-loop-n
invariant-loop-n l = record {
  long : length l.kept.items ≡ l.n;
  elements : map element_in l.kept.items ≡ map element (take l.n l.found);
  kept : AreKept l.cat l.q l.r l.p l.kept.items;
}

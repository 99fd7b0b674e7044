use Rattle.std.proofs.Common.{◌≡◌, map, take}
use Rattle.plan_tree.specs.work.Views.{bits}
use Rattle.plan_tree.proofs.bits.+copy_bits.Given as goal

abbrev pub invariant-BitTrees::copy-loop-part : goal.invariant-BitTrees::copy-loop-part
invariant-BitTrees::copy-loop-part l = map bits l.items.items ≡ map bits (take l.part-index l.part-items)

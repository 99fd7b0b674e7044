use Rattle.std.proofs.Common.{◌≡◌, ◌++◌, drop}
use Rattle.std.specs.List.{flat_map}
use Rattle.explain.specs.Texts.{leaf_line}
use Rattle.explain.proofs.bits.put_leaves.Given as goal

abbrev pub invariant-loop-i : goal.invariant-loop-i
invariant-loop-i l =
    l.text.items ++ flat_map (leaf_line l.cat l.lead) (drop l.i-index l.indexes) ≡ l.fn.text.items ++ flat_map (leaf_line l.cat l.lead) l.indexes

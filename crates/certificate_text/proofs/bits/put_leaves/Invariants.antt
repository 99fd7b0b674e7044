use Rattle.std.proofs.Common.{◌≡◌, ◌++◌, [], codes, cond, drop, map}
use Rattle.explain.specs.Texts.{with_commas}
use Rattle.certificate_text.specs.Texts.{leaf_text}
use Rattle.certificate_text.proofs.bits.put_leaves.Given as goal

abbrev pub invariant-loop-i : goal.invariant-loop-i
invariant-loop-i l =
    l.text.items ++ with_commas (cond l.first [] (codes ", ")) (map (leaf_text l.cat) (drop l.i-index l.indexes)) ≡ l.fn.text.items ++ with_commas [] (map (leaf_text l.cat) l.indexes)

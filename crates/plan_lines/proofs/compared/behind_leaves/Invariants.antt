use Rattle.std.proofs.Common.{◌≡◌, ◌++◌, ℕ, List, drop}
use Rattle.std.specs.List.{flat_map}
use Rattle.certificate_entries.specs.explain_Texts.{leaf_line}
use Rattle.plan_lines.proofs.compared.behind_leaves.Given as goal

abbrev pub invariant-loop-i : goal.invariant-loop-i
invariant-loop-i l = record {
  is : (rest : List ℕ) → l.left ≡ flat_map (leaf_line l.cat l.depth) (drop l.i-index l.indexes) ++ rest → l.fn.text ≡ flat_map (leaf_line l.cat l.depth) l.indexes ++ rest;
  only : (rest : List ℕ) → l.fn.text ≡ flat_map (leaf_line l.cat l.depth) l.indexes ++ rest → l.left ≡ flat_map (leaf_line l.cat l.depth) (drop l.i-index l.indexes) ++ rest;
}

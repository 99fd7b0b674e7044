use Rattle.std.proofs.Math.Nat.{lt_of_le_of_lt}
use Rattle.plan_tree.proofs.BoundLemmas.{lawful-rows, sort-most, nest-most, merge-most}
use Rattle.plan_tree.proofs.laws.admissible_children.Goals as goal

pub returns : goal.returns
returns z = record {
  rows = lawful-rows;
  sort = λ c q keys p h. lt_of_le_of_lt (sort-most c q keys p) h;
  nest = λ c q o i some h. (lt_of_le_of_lt (nest-most c q some o i).0 h, lt_of_le_of_lt (nest-most c q some o i).1 h);
  merge = λ c q keys o i h. (lt_of_le_of_lt (merge-most c q keys o i).0 h, lt_of_le_of_lt (merge-most c q keys o i).1 h);
}

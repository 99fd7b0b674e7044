use Rattle.std.proofs.Common.{◌≡◌, ◌++◌, ℕ, List, codes, cond, nat_eq, [], map, drop}
use Rattle.pg_base.specs.Sets.{has}
use Rattle.pathkeys.specs.work.Finding.{class_numbers}
use Rattle.certificate_entries.specs.explain_Texts.{key_text, keys_text, with_commas}
use Rattle.plan_lines.proofs.keys.behind_keys.Given as goal

abbrev pub invariant-loop-n : goal.invariant-loop-n
invariant-loop-n l = record {
  is : (rest : List ℕ) → l.left ≡ with_commas (cond (nat_eq l.n 0) [] (codes ", ")) (map (key_text l.cat l.q (has l.set.0)) (class_numbers (drop l.n l.keys))) ++ rest →
      l.fn.text ≡ keys_text l.cat l.q (has l.set.0) (class_numbers l.keys) ++ rest;
  only : (rest : List ℕ) → l.fn.text ≡ keys_text l.cat l.q (has l.set.0) (class_numbers l.keys) ++ rest →
      l.left ≡ with_commas (cond (nat_eq l.n 0) [] (codes ", ")) (map (key_text l.cat l.q (has l.set.0)) (class_numbers (drop l.n l.keys))) ++ rest;
}

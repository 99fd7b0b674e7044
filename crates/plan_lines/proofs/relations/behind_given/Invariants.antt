use Rattle.std.proofs.Common.{◌≡◌, ◌++◌, ℕ, List, codes, cond, drop}
use Rattle.pg_base.specs.Sets.{has}
use Rattle.certificate_entries.specs.explain_Texts.{aliases_in, given_text, with_commas}
use Rattle.plan_lines.proofs.relations.behind_given.Given as goal

abbrev pub invariant-loop-n : goal.invariant-loop-n
invariant-loop-n l = record {
  is : (rest : List ℕ) → l.left ≡ with_commas (cond l.first (codes " for ") (codes ", ")) (aliases_in l.n (has l.p.0) (drop l.n l.relations)) ++ rest → l.fn.text ≡ given_text l.relations l.p ++ rest;
  only : (rest : List ℕ) → l.fn.text ≡ given_text l.relations l.p ++ rest → l.left ≡ with_commas (cond l.first (codes " for ") (codes ", ")) (aliases_in l.n (has l.p.0) (drop l.n l.relations)) ++ rest;
}

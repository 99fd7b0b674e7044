use Rattle.std.proofs.Common.{◌≡◌, ◌++◌, codes, cond, drop}
use Rattle.pg_base.specs.Sets.{has}
use Rattle.explain.specs.Texts.{aliases_in, given_text, with_commas}
use Rattle.explain.proofs.relations.put_given.Given as goal

abbrev pub invariant-loop-n : goal.invariant-loop-n
invariant-loop-n l =
    l.text.items ++ with_commas (cond l.first (codes " for ") (codes ", ")) (aliases_in l.n (has l.p.0) (drop l.n l.relations)) ≡ l.fn.text.items ++ given_text l.relations l.p

use Rattle.std.proofs.Common.{◌≡◌, ◌++◌, [], codes, cond, drop}
use Rattle.pg_base.specs.Sets.{has}
use Rattle.explain.specs.Texts.{aliases_in}
use Rattle.certificate_text.specs.Texts.{with_bare_commas}
use Rattle.certificate_text.proofs.sets.put_aliases.Given as goal

abbrev pub invariant-loop-n : goal.invariant-loop-n
invariant-loop-n l =
    l.text.items ++ with_bare_commas (cond l.first [] (codes ",")) (aliases_in l.n (has l.s.0) (drop l.n l.relations)) ≡ l.fn.text.items ++ with_bare_commas [] (aliases_in 0 (has l.s.0) l.relations)

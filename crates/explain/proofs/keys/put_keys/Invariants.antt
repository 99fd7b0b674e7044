use Rattle.std.proofs.Common.{◌≡◌, ◌++◌, codes, cond, nat_eq, [], map, drop}
use Rattle.pg_base.specs.Sets.{has}
use Rattle.pathkeys.specs.work.Finding.{class_numbers}
use Rattle.explain.specs.Texts.{key_text, keys_text, with_commas}
use Rattle.explain.proofs.keys.put_keys.Given as goal

abbrev pub invariant-loop-n : goal.invariant-loop-n
invariant-loop-n l =
    l.text.items ++ with_commas (cond (nat_eq l.n 0) [] (codes ", ")) (map (key_text l.cat l.q (has l.set.0)) (class_numbers (drop l.n l.keys)))
    ≡ l.fn.text.items ++ keys_text l.cat l.q (has l.set.0) (class_numbers l.keys)

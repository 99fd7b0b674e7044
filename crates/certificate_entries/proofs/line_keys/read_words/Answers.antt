use Rattle.std.proofs.Common.{◌∷◌, ◌++◌, ◌∙◌, arith, refl}
use Rattle.std.proofs.lemmas.List.{append_assoc}
use Rattle.certificate_entries.specs.work.Keys.{family_if}
use Rattle.certificate_entries.proofs.KeyLemmas.{family-read, stops-family}
use Rattle.certificate_entries.proofs.line_keys.read_words.Goals as goal

pub returns : goal.returns
returns c = record {
  only = λ alias name rest abs wa wn ends e.
      let a = c.word-alias.ensures.only alias (46 ∷ name ++ (family_if abs ++ rest)) (e ∙ append_assoc alias (46 ∷ name) (family_if abs ++ rest)) wa refl in
      let d = c.eat.ensures.took (name ++ (family_if abs ++ rest)) a.1 in
      let n = c.word-name.ensures.only name (family_if abs ++ rest) d.1 wn (stops-family abs rest ends) in
      let f = family-read abs rest c.eat-abs.result c.word-name.new.self c.eat-abs.new.self ends c.eat-abs.ensures.took c.eat-abs.ensures.left c.eat-abs.ensures.is n.1 in
      ((a.0, n.0, f.0), f.1);
  shorter = omega (arith, c.word-alias.ensures.shorter, c.eat.ensures.shorter, c.word-name.ensures.shorter, c.eat-abs.ensures.shorter);
}

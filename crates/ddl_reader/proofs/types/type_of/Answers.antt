use Rattle.std.proofs.Common.{sym, ap, ◌∷◌, [], ◌∙◌}
use Rattle.ddl_reader.specs.declared.types.TypeRead.{TypeRead}
use Rattle.ddl_reader.proofs.TypeLemmas.{bound-as, one-number, two-numbers}
use Rattle.ddl_reader.proofs.types.type_of.Goals as goal

pub returns-in-One : goal.returns-in-One
returns-in-One c = λ k is.
    let (said, value, all) = one-number k.numbers c.in-One.n (sym c.in-One.is ∙ ap (λ (r : TypeRead). r.numbers) is) in
    c.with_one.ensures k.at said value ∙ bound-as k c.in-Some.word (said ∷ []) (sym (ap (λ (r : TypeRead). r.word) is) ∙ c.in-Some.is) all

pub returns-in-Two : goal.returns-in-Two
returns-in-Two c = λ k is.
    let (first, second, one, two, all) = two-numbers k.numbers c.in-Two.n c.in-Two.m (sym c.in-Two.is ∙ ap (λ (r : TypeRead). r.numbers) is) in
    c.with_two.ensures k.at first second one two ∙ bound-as k c.in-Some.word (first ∷ second ∷ []) (sym (ap (λ (r : TypeRead). r.word) is) ∙ c.in-Some.is) all

use Rattle.std.proofs.Common.{Some, refl, sym, ap, ◌∙◌}
use Rattle.query_reader.proofs.PartLemmas.{after-as, alias-read}
use Rattle.query_reader.proofs.read.alias.Goals as goal

pub returns-then-takes : goal.returns-then-takes
returns-then-takes c = λ k rest ends is.
    let (t, took) = c.if-takes.ensures.took refl in
    let found = after-as k rest _ t ends (sym took ∙ is) in
    let read = c.in_ok-name.ensures.read found.name rest found.words in
    (ap Some read.0 ∙ sym found.alias, read.1)

pub returns : goal.returns
returns c = alias-read c.name-2.result _ _ _ _ (c.if-takes.ensures.left refl) (c.if-takes.ensures.other refl) c.name-2.ensures

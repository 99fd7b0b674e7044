use Rattle.std.proofs.Common.{◌∷◌, refl, sym, ap, ◌∙◌}
use Rattle.query_reader.specs.declared.written.Item.TheVariants.{Bare, Qualified}
use Rattle.sql_grammar.specs.Terminals.{t_name}
use Rattle.expr_reader.specs.Reading.{spelled}
use Rattle.query_reader.proofs.PartLemmas.{bare-only, after-dot}
use Rattle.query_reader.proofs.read.after_name.Goals as goal

pub returns-then-not-takes_mark-clause-read : goal.returns-then-not-takes_mark-clause-read
returns-then-not-takes_mark-clause-read c = λ n s rest ends first is.
    let only = bare-only n s rest _ (c.if-not-takes_mark.ensures.other refl) is in
    (ap Bare first ∙ only.0, c.if-not-takes_mark.ensures.left refl ∙ only.1)

pub name-requires : goal.name-requires
name-requires c =
    let (n, s, rest, ends, is) = c.requires in
    let (t, took) = c.if-not-takes_mark.ensures.took refl in
    let left = c.if-takes_mark.ensures.left refl in
    let found = after-dot n s rest c.takes_mark.new.self t ends (c.if-takes_mark.ensures.other refl) (ap (λ l. t_name n ∷ l) (sym took) ∙ is) in
    (found.name, rest, left ∙ found.words)

pub returns-clause-read : goal.returns-clause-read
returns-clause-read c = λ n s rest ends first is.
    let (t, took) = c.if-not-takes_mark.ensures.took refl in
    let left = c.if-takes_mark.ensures.left refl in
    let found = after-dot n s rest c.takes_mark.new.self t ends (c.if-takes_mark.ensures.other refl) (ap (λ l. t_name n ∷ l) (sym took) ∙ is) in
    let read = c.in_ok-second.ensures.read found.name rest (left ∙ found.words) in
    (ap (λ q. Qualified q c.in_ok-second.second) first ∙ (ap (λ m. Qualified (spelled n) m) read.0 ∙ found.item), read.1)

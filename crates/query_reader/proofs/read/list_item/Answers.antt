use Rattle.std.proofs.Common.{◌∷◌, refl, sym, ap, ◌∙◌}
use Rattle.std.proofs.lemmas.Result.{IfOk-weaker}
use Rattle.sql_grammar.specs.Terminals.{t_name}
use Rattle.query_reader.proofs.PartLemmas.{begins-so}
use Rattle.query_reader.proofs.read.list_item.Goals as goal

pub name-requires : goal.name-requires
name-requires c =
    let (s, rest, ends, is) = c.requires in
    let so = begins-so s rest _ (c.if-takes_mark.ensures.other refl) is in
    (so.name, so.left, c.if-takes_mark.ensures.left refl ∙ so.words)

pub after_name-requires : goal.after_name-requires
after_name-requires c =
    let (s, rest, ends, is) = c.requires in
    let so = begins-so s rest _ (c.if-takes_mark.ensures.other refl) is in
    let read = c.in_ok-first.ensures.read so.name so.left (c.if-takes_mark.ensures.left refl ∙ so.words) in
    (so.name, s, rest, ends, ap (λ l. t_name so.name ∷ l) read.1 ∙ (sym so.words ∙ is))

pub returns-clause-read : goal.returns-clause-read
returns-clause-read c =
    IfOk-weaker c.after_name.result _ _
    (λ x read s rest ends is. (
    let so = begins-so s rest _ (c.if-takes_mark.ensures.other refl) is in
    let named = c.in_ok-first.ensures.read so.name so.left (c.if-takes_mark.ensures.left refl ∙ so.words) in
    read so.name s rest ends named.0 (ap (λ l. t_name so.name ∷ l) named.1 ∙ (sym so.words ∙ is))
    ))
    c.after_name.ensures.read

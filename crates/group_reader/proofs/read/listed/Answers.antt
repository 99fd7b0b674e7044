use Rattle.std.proofs.Common.{◌∷◌, ◌++◌, refl, sym, ap, subst, ◌∙◌}
use Rattle.std.proofs.lemmas.Result.{IfOk-weaker}
use Rattle.sql_grammar.specs.Syntax.{GroupedItem}
use Rattle.sql_grammar.specs.Terminals.{t_mark, t_name}
use Rattle.sql_grammar.specs.Words.{words_of_grouped_item}
use Rattle.sql_grammar.specs.declared.class.Symbol.TheVariants.{Open, Star}
use Rattle.expr_reader.specs.work.Reading.{BeginsNot}
use Rattle.query_reader.proofs.OrderLemmas.{second-name}
use Rattle.group_reader.specs.work.Written.{listed_of}
use Rattle.group_reader.proofs.WordLemmas.{begins-named, every-listed, listed-item, no-call}
use Rattle.group_reader.proofs.read.listed.Goals as goal

pub returns-then-takes_mark-clause-read : goal.returns-then-takes_mark-clause-read
returns-then-takes_mark-clause-read c = λ i rest ends is.
    let (t, star) = c.if-takes_mark.ensures.took refl in
    every-listed i rest _ t _ (sym star ∙ is) (c.token-word.ensures (t_mark Star t) _ star)

pub expect_name-requires : goal.expect_name-requires
expect_name-requires c =
    let (i, rest, ends, is) = c.requires in
    let so = begins-named i rest _ (c.if-takes_mark.ensures.other refl) is in
    (so.name, so.left, c.if-takes_mark.ensures.left refl ∙ so.words)

pub after_name-requires : goal.after_name-requires
after_name-requires c =
    let (i, rest, ends, is) = c.requires in
    let so = begins-named i rest _ (c.if-takes_mark.ensures.other refl) is in
    let read = second-name _ _ _ so.name so.left c.in_ok-first.ensures.read (c.if-takes_mark.ensures.left refl ∙ so.words) in
    let words = ap (λ l. t_name so.name ∷ l) (c.if-takes_mark-2.ensures.left refl ∙ read.1) ∙ (sym so.words ∙ is) in
    let plain = no-call i rest c.takes_mark-2.new.self so.name (subst (BeginsNot (t_mark Open)) (sym (c.if-takes_mark-2.ensures.left refl)) (c.if-takes_mark-2.ensures.other refl)) words in
    (so.name, plain.output, rest, listed-item rest ends, words ∙ ap (λ (x : GroupedItem). words_of_grouped_item x ++ rest) plain.is)

pub returns-clause-read : goal.returns-clause-read
returns-clause-read c =
    IfOk-weaker c.after_name.result _ _
    (λ x read i rest ends is. (
    let so = begins-named i rest _ (c.if-takes_mark.ensures.other refl) is in
    let named = second-name _ _ _ so.name so.left c.in_ok-first.ensures.read (c.if-takes_mark.ensures.left refl ∙ so.words) in
    let words = ap (λ l. t_name so.name ∷ l) (c.if-takes_mark-2.ensures.left refl ∙ named.1) ∙ (sym so.words ∙ is) in
    let plain = no-call i rest c.takes_mark-2.new.self so.name (subst (BeginsNot (t_mark Open)) (sym (c.if-takes_mark-2.ensures.left refl)) (c.if-takes_mark-2.ensures.other refl)) words in
    let got = read so.name plain.output rest (listed-item rest ends) named.0 (words ∙ ap (λ (y : GroupedItem). words_of_grouped_item y ++ rest) plain.is) in
    (got.0 ∙ sym (ap listed_of plain.is), got.1)
    ))
    c.after_name.ensures.read

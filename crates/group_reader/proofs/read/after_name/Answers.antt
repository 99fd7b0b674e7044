use Rattle.std.proofs.Common.{◌∷◌, refl, sym, ap, ◌∙◌}
use Rattle.sql_lex.specs.declared.tokens.Token.{Token}
use Rattle.sql_grammar.specs.Terminals.{t_mark, t_name}
use Rattle.sql_grammar.specs.declared.class.Symbol.TheVariants.{Dot, Star}
use Rattle.expr_reader.specs.Reading.{spelled}
use Rattle.expr_reader.specs.declared.cursor.Spelled.{Spelled}
use Rattle.query_reader.specs.declared.written.Item.TheVariants.{Qualified}
use Rattle.query_reader.proofs.OrderLemmas.{second-name}
use Rattle.group_reader.specs.declared.written.Listed.TheVariants.{Columns}
use Rattle.group_reader.proofs.WordLemmas.{bare-listed, dotted, star-listed}
use Rattle.group_reader.proofs.read.after_name.Goals as goal

pub returns-then-not-takes_mark-clause-read : goal.returns-then-not-takes_mark-clause-read
returns-then-not-takes_mark-clause-read c = λ n o rest ends first is.
    let only = bare-listed n o rest _ _ first (c.if-not-takes_mark.ensures.other refl) is in
    (only.0, c.if-not-takes_mark.ensures.left refl ∙ only.1)

pub returns-then-takes_mark-clause-read : goal.returns-then-takes_mark-clause-read
returns-then-takes_mark-clause-read c = λ n o rest ends first is.
    let (d, dot) = c.if-not-takes_mark.ensures.took refl in
    let (t, star) = c.if-takes_mark.ensures.took refl in
    star-listed n o rest _ _ d t _ ends first (ap (λ l. t_name n ∷ t_mark Dot d ∷ l) (sym star) ∙ (ap (λ l. t_name n ∷ l) (sym dot) ∙ is)) (c.token-word.ensures (t_mark Star t) _ star)

pub expect_name-requires : goal.expect_name-requires
expect_name-requires c =
    let (n, o, rest, ends, is) = c.requires in
    let (t, took) = c.if-not-takes_mark.ensures.took refl in
    let found = dotted n o rest c.takes_mark.new.self t ends (c.if-takes_mark.ensures.other refl) (ap (λ l. t_name n ∷ l) (sym took) ∙ is) in
    (found.name, rest, c.if-takes_mark.ensures.left refl ∙ found.words)

pub returns-clause-read : goal.returns-clause-read
returns-clause-read c = λ n o rest ends first is.
    let (t, took) = c.if-not-takes_mark.ensures.took refl in
    let found = dotted n o rest c.takes_mark.new.self t ends (c.if-takes_mark.ensures.other refl) (ap (λ l. t_name n ∷ l) (sym took) ∙ is) in
    let read = second-name _ _ _ found.name rest c.in_ok-second.ensures.read (c.if-takes_mark.ensures.left refl ∙ found.words) in
    let word = c.token-word.ensures (t_name found.name) rest found.words in (
      ap (λ (x : Spelled). Columns (Qualified x c.in_ok-second.second) c.token-word.result) first ∙
          (ap (λ (x : Spelled). Columns (Qualified (spelled n) x) c.token-word.result) read.0 ∙
          (ap (λ (w : Token). Columns (Qualified (spelled n) (spelled found.name)) w) word ∙ found.listed)),
      read.1,
    )

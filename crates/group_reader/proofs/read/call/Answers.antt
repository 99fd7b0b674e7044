use Rattle.std.proofs.Common.{◌∷◌, drop, refl, sym, ap, ◌∙◌}
use Rattle.sql_grammar.specs.Terminals.{t_mark}
use Rattle.sql_grammar.specs.declared.class.Symbol.TheVariants.{Close}
use Rattle.group_reader.specs.declared.written.Column.{Column}
use Rattle.group_reader.specs.declared.written.Listed.TheVariants.{OverColumn}
use Rattle.group_reader.specs.work.Written.{called_over}
use Rattle.group_reader.proofs.WordLemmas.{of-col}
use Rattle.group_reader.proofs.read.call.Goals as goal

pub column-requires : goal.column-requires
column-requires c =
    let (a, m, rest, is) = c.requires in
    let so = of-col a m rest _ (c.if-takes_mark.ensures.other refl) is in
    (so.column, t_mark Close m ∷ rest, refl, c.if-takes_mark.ensures.left refl ∙ so.words)

pub returns-clause-read : goal.returns-clause-read
returns-clause-read c = λ a m rest is.
    let so = of-col a m rest _ (c.if-takes_mark.ensures.other refl) is in
    let read = c.in_ok-column.ensures.read so.column (t_mark Close m ∷ rest) refl (c.if-takes_mark.ensures.left refl ∙ so.words) in
    (ap (λ (x : Column). OverColumn c.args.name x) read.0 ∙ sym (ap (called_over c.args.name) so.is), c.skip-2.ensures ∙ ap (drop 1) read.1)

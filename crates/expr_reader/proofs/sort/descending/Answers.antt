use Rattle.std.proofs.Common.{◌∙◌, subst, refl}
use Rattle.sql_grammar.specs.declared.class.Word.TheVariants.{Asc}
use Rattle.sql_grammar.specs.Terminals.{t_key}
use Rattle.expr_reader.specs.work.Reading.{BeginsNot}
use Rattle.expr_reader.proofs.SortLemmas.{neither}
use Rattle.expr_reader.proofs.sort.descending.Goals as goal

pub returns-clause-read : goal.returns-clause-read
returns-clause-read c =
    let first = c.if-takes.ensures.left refl in
    let same = c.if-takes-2.ensures.left refl ∙ first in
    let asc = subst (BeginsNot (t_key Asc)) first (c.if-takes-2.ensures.other refl) in
    λ d rest ends is. neither d rest c.args.from.now c.takes-2.new.self (c.if-takes.ensures.other refl) asc same is

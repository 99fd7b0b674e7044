use Rattle.std.proofs.Common.{◌∙◌, subst, ap, length, arith, refl}
use Rattle.sql_grammar.specs.declared.class.Word.TheVariants.{Null}
use Rattle.sql_grammar.specs.Terminals.{t_key}
use Rattle.expr_reader.specs.work.Reading.{BeginsNot}
use Rattle.ddl_reader.proofs.Parts.{neither}
use Rattle.ddl_reader.proofs.columns.not_null.Goals as goal

pub returns : goal.returns
returns c =
    let first = c.if-takes.ensures.left refl in
    let same = c.if-takes-2.ensures.left refl ∙ first in
    let nulls = subst (BeginsNot (t_key Null)) first (c.if-takes-2.ensures.other refl) in
    let len = ap length same in
    record {
      ahead = omega (arith, len);
      read = λ x rest ends e. neither x rest c.args.from.now c.takes-2.new.self (c.if-takes.ensures.other refl) nulls same e;
    }

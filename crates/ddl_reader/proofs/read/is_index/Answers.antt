use Rattle.std.proofs.Common.{refl, sym, ◌∙◌, subst}
use Rattle.sql_grammar.specs.declared.class.Word.TheVariants.{Create}
use Rattle.sql_grammar.specs.Terminals.{t_key}
use Rattle.expr_reader.specs.work.Reading.{BeginsNot}
use Rattle.ddl_reader.proofs.OpeningLemmas.{no-create, index-by}
use Rattle.ddl_reader.proofs.read.is_index.Goals as goal

pub returns-then-not-takes : goal.returns-then-not-takes
returns-then-not-takes c = no-create _ (subst (BeginsNot (t_key Create)) c.new-from.ensures (c.if-not-takes.ensures.other refl))

pub returns : goal.returns
returns c =
    let (token, took) = c.if-not-takes.ensures.took refl in
    index-by c.takes_free.result token _ c.takes.new.self c.takes_free.new.self (sym c.new-from.ensures ∙ took) c.takes_free.ensures.took c.takes_free.ensures.other

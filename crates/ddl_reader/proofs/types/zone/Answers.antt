use Rattle.std.proofs.Common.{inr, refl, subst, ◌∙◌}
use Rattle.sql_grammar.specs.declared.class.Free.TheVariants.{Without}
use Rattle.expr_reader.specs.work.Reading.{free_name, BeginsNot}
use Rattle.ddl_reader.proofs.types.zone.Goals as goal

pub returns-else-takes_free-clause-unzoned : goal.returns-else-takes_free-clause-unzoned
returns-else-takes_free-clause-unzoned c = λ same.
    let first = c.if-takes.ensures.left refl in
    inr (c.if-takes.ensures.other refl, subst (BeginsNot (free_name Without)) first (c.if-takes_free.ensures.other refl), c.if-takes_free.ensures.left refl ∙ first)

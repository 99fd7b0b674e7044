use Rattle.std.proofs.Common.{refl, sym, subst, ◌∙◌}
use Rattle.sql_grammar.specs.Terminals.{t_key}
use Rattle.sql_grammar.specs.declared.class.Word.TheVariants.{Cross as CrossKey, Inner as InnerKey, Join as JoinKey}
use Rattle.expr_reader.specs.work.Reading.{BeginsNot}
use Rattle.query_reader.proofs.JoinLemmas.{next-cross, next-inner, next-join, no-join}
use Rattle.query_reader.proofs.read.joining.Goals as goal

pub returns-then-takes : goal.returns-then-takes
returns-then-takes c = λ js rest ends is.
    let (t, took) = c.if-takes.ensures.took refl in
    next-cross js rest _ _ _ t ends took c.skip.ensures is

pub returns-then-takes-2 : goal.returns-then-takes-2
returns-then-takes-2 c = λ js rest ends is.
    let (t, took) = c.if-takes-2.ensures.took refl in
    next-inner js rest _ _ _ t ends took c.skip-then-takes-2.ensures (c.if-takes.ensures.left refl ∙ is)

pub returns-then-takes-3 : goal.returns-then-takes-3
returns-then-takes-3 c = λ js rest ends is.
    let (t, took) = c.if-takes-3.ensures.took refl in
    next-join js rest _ _ t ends took (c.if-takes-2.ensures.left refl ∙ (c.if-takes.ensures.left refl ∙ is))

pub returns : goal.returns
returns c = λ js rest ends is.
    let first = c.if-takes.ensures.left refl in
    let second = c.if-takes-2.ensures.left refl ∙ first in
    let third = c.if-takes-3.ensures.left refl ∙ second in
    no-join js rest c.takes-3.new.self
    (subst (BeginsNot (t_key CrossKey)) (sym third) (c.if-takes.ensures.other refl))
    (subst (BeginsNot (t_key InnerKey)) (sym (c.if-takes-3.ensures.left refl ∙ c.if-takes-2.ensures.left refl)) (c.if-takes-2.ensures.other refl))
    (subst (BeginsNot (t_key JoinKey)) (sym (c.if-takes-3.ensures.left refl)) (c.if-takes-3.ensures.other refl))
    (third ∙ is)

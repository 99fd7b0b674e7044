use Rattle.std.proofs.Common.{Ok, sym, subst}
use Rattle.query_reader.specs.Binding.{bound_part}
use Rattle.group_reader.specs.declared.selected.Selected.TheVariants.{Plain}
use Rattle.group_reader.specs.work.Selected.{IsReadPlain}
use Rattle.group_reader.proofs.FormLemmas.{bound-at, part_of, plain-read, plain-refused, select-at}
use Rattle.group_reader.proofs.selected.plain.Goals as goal

pub returns-in_err-query-clause-meaning : goal.returns-in_err-query-clause-meaning
returns-in_err-query-clause-meaning c = λ x start later split w.
    subst (λ m. IsReadPlain m c.from_residual.result) (sym (bound-at c.args.cat.now start x))
    (plain-refused (bound_part c.args.cat.now start (part_of x)) c.in_err-query.field-0.0 _
    (c.in_err-query.ensures.binding (part_of x) start later split c.requires.whole (select-at c.args.text.now c.args.tokens.now c.args.first x w c.requires.place)) c.from_residual.ensures.1)

pub returns-clause-meaning : goal.returns-clause-meaning
returns-clause-meaning c = λ x start later split w.
    subst (λ m. IsReadPlain m (Ok (Plain c.in_ok-query.query))) (sym (bound-at c.args.cat.now start x))
    (plain-read (bound_part c.args.cat.now start (part_of x)) c.in_ok-query.query
    (c.in_ok-query.ensures.binding (part_of x) start later split c.requires.whole (select-at c.args.text.now c.args.tokens.now c.args.first x w c.requires.place)))

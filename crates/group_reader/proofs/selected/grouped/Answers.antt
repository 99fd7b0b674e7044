use Rattle.group_reader.specs.Binding.{bound_groups}
use Rattle.group_reader.proofs.FormLemmas.{grouped-at, grouped-read, grouped-refused}
use Rattle.group_reader.proofs.selected.grouped.Goals as goal

pub read_grouped-requires-clause-select : goal.read_grouped-requires-clause-select
read_grouped-requires-clause-select c =
    let g = c.requires.select in
    (g.select, grouped-at c.args.text.now c.args.tokens.now c.args.first g.offered g.explaining g.word g.select g.spelled c.requires.place)

pub returns-in_err-query-clause-meaning : goal.returns-in_err-query-clause-meaning
returns-in_err-query-clause-meaning c = λ p e k x start later split w.
    grouped-refused (bound_groups c.args.cat.now start x) c.in_err-query.field-0.0 _
    (c.in_err-query.ensures.meaning x start later split (grouped-at c.args.text.now c.args.tokens.now c.args.first p e k x w c.requires.place)) c.from_residual.ensures.1

pub returns-clause-meaning : goal.returns-clause-meaning
returns-clause-meaning c = λ p e k x start later split w.
    grouped-read (bound_groups c.args.cat.now start x) c.in_ok-query.query
    (c.in_ok-query.ensures.meaning x start later split (grouped-at c.args.text.now c.args.tokens.now c.args.first p e k x w c.requires.place))

use Rattle.std.proofs.Common.{◌∙◌, sym}
use Rattle.index_reader.proofs.NameLemmas.{taken-by-candidate, taken-by-index, taken-by-table}
use Rattle.index_reader.proofs.allowed.is_taken.Goals as goal

pub returns-then-is_some : goal.returns-then-is_some
returns-then-is_some c = taken-by-table c.args.cat.now c.args.candidates.now c.args.name.now c.table.result c.table.ensures.meaning (sym c.is_some.ensures ∙ c.if-is_some.true)

pub returns-then-is_some-2 : goal.returns-then-is_some-2
returns-then-is_some-2 c = taken-by-index c.args.cat.now c.args.candidates.now c.args.name.now c.index_named.result c.index_named.ensures.meaning (sym c.is_some-2.ensures ∙ c.if-is_some-2.true)

pub returns : goal.returns
returns c =
    taken-by-candidate c.args.cat.now c.args.candidates.now c.args.name.now c.is_among.result c.table.result c.index_named.result c.table.ensures.meaning c.index_named.ensures.meaning
    (sym c.is_some.ensures ∙ c.if-is_some.false) (sym c.is_some-2.ensures ∙ c.if-is_some-2.false) c.is_among.ensures

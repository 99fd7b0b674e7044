use Rattle.std.proofs.Common.{refl}
use Rattle.expr_reader.proofs.expr.column_test.Goals as goal

pub returns-then-takes-clause-alone : goal.returns-then-takes-clause-alone
returns-then-takes-clause-alone c = λ none. absurd (none c.takes.new.self (c.if-takes.ensures.took refl))

pub returns-clause-plain : goal.returns-clause-plain
returns-clause-plain c = λ i n rest is. absurd (c.if-takes.ensures.other refl _ (i, is))

pub returns-clause-negated : goal.returns-clause-negated
returns-clause-negated c = λ i t n rest is. absurd (c.if-takes.ensures.other refl _ (i, is))

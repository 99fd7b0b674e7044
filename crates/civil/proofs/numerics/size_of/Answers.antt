use Rattle.std.proofs.Common.{sym, ◌∙◌}
use Rattle.civil.proofs.NumericLemmas.{below-all}
use Rattle.civil.proofs.numerics.size_of.Goals as goal

pub returns-then-size-from-clause-bound : goal.returns-then-size-from-clause-bound
returns-then-size-from-clause-bound c =
    below-all c.args.digits c.args.scale _ c.from-6.result c.from-5.result (sym c.has_size.ensures ∙ c.if-not-has_size.false) c.if-size-from.true (c.from-6.ensures ∙ c.ten_to-2.ensures) c.from-5.ensures

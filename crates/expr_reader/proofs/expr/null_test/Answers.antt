use Rattle.std.proofs.Common.{refl}
use Rattle.expr_reader.proofs.AtomLemmas.{null-next}
use Rattle.expr_reader.proofs.expr.null_test.Goals as goal

pub unreachable-requires : goal.unreachable-requires
unreachable-requires c =
    null-next c.args.from.now c.takes-negated.new.self c.takes-negated.result c.requires c.takes-negated.ensures.took c.takes-negated.ensures.left c.takes-negated.ensures.other (c.if-not-takes.ensures.other refl)

use Rattle.std.proofs.Common.{refl, ◌∙◌}
use Rattle.expr_reader.proofs.LiteralLemmas.{no-constant}
use Rattle.expr_reader.proofs.literal.constant.Goals as goal

pub returns : goal.returns
returns c =
    let second = c.if-takes.ensures.left refl in
    let third = c.if-takes-2.ensures.left refl ∙ second in
    (c.if-takes-3.ensures.left refl ∙ third, no-constant _ _ _ (c.if-takes.ensures.other refl) (c.if-takes-2.ensures.other refl) (c.if-takes-3.ensures.other refl) second third)

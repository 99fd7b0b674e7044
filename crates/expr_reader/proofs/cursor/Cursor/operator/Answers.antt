use Rattle.expr_reader.proofs.Next.{operator-next}
use Rattle.std.proofs.Common.{◌∙◌, refl}
use Rattle.expr_reader.proofs.cursor.Cursor.operator.Goals as goal

pub returns-in-Some-Operator : goal.returns-in-Some-Operator
returns-in-Some-Operator c =
    let (word, left, class, is) = c.in-Some-Operator.ensures in
    operator-next c.self.inside.text.now c.self.inside.tokens.now c.self.inside.at _ c.args.self.now c.skip.new.self left word _ c.self.view_is is (class ∙ c.in-Some-Operator.field-0-is) c.skip.ensures c.operator_named-op.ensures refl

use Rattle.expr_reader.proofs.Next.{name-next}
use Rattle.std.proofs.Common.{◌∙◌, refl}
use Rattle.expr_reader.proofs.cursor.Cursor.name.Goals as goal

pub returns-in_ok-bytes-in-Some-Name : goal.returns-in_ok-bytes-in-Some-Name
returns-in_ok-bytes-in-Some-Name c =
    let (word, left, class, is) = c.in-Some-Name.ensures in
    name-next c.self.inside.text.now c.self.inside.tokens.now c.self.inside.at _ c.args.self.now c.skip.new.self left word _ _ c.self.view_is is (class ∙ c.in-Some-Name.field-0-is) c.skip.ensures c.in_ok-bytes-in-Some-Name.ensures refl

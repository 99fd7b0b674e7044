use Rattle.expr_reader.proofs.Next.{quoted-next}
use Rattle.std.proofs.Common.{◌∙◌, refl}
use Rattle.expr_reader.proofs.cursor.Cursor.quoted.Goals as goal

pub returns-in_ok-bytes-in-Some-Quoted : goal.returns-in_ok-bytes-in-Some-Quoted
returns-in_ok-bytes-in-Some-Quoted c =
    let (word, left, class, is) = c.in-Some-Quoted.ensures in
    quoted-next c.self.inside.text.now c.self.inside.tokens.now c.self.inside.at _ c.args.self.now c.skip.new.self left word _ c.self.view_is is (class ∙ c.in-Some-Quoted.field-0-is) c.skip.ensures c.in_ok-bytes-in-Some-Quoted.ensures refl

use Rattle.expr_reader.proofs.Next.{token-next}
use Rattle.expr_reader.proofs.cursor.Cursor.token.Goals as goal

pub returns : goal.returns
returns c = λ word left is.
    token-next c.self.inside.text.now c.self.inside.tokens.now c.self.inside.at _ c.args.self.now left word c.self.view_is is

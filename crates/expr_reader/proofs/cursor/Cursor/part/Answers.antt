use Rattle.std.proofs.Common.{arith}
use Rattle.std.proofs.lemmas.List.{length-take-le}
use Rattle.std.proofs.lemmas.List.Elements.{All-take}
use Rattle.sql_grammar.specs.work.Reading.{IsWithin}
use Rattle.expr_reader.specs.work.Reading.{HasDigits}
use Rattle.expr_reader.proofs.Tokens.{words-digits}
use Rattle.sql_grammar.proofs.StatementWords.{words-inside}
use Rattle.expr_reader.proofs.cursor.Cursor.part.Goals as goal

pub invariant_of-result : goal.invariant_of-result
invariant_of-result c =
    let text = c.args.text.now in
    let tokens = c.args.tokens.now in
    let (from, words) = c.requires.words in
    let many = length-take-le c.args.end tokens c.requires.within in
    rw c.items.ensures (
      omega (arith, many, c.requires.order),
      All-take (IsWithin text) c.args.end tokens (words-inside text from tokens words),
      All-take (HasDigits text) c.args.end tokens (words-digits text from tokens words),
    )

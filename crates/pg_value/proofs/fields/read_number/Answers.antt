use Rattle.pg_value.proofs.Numerals.{numeral-value, no-numeral}
use Rattle.pg_value.proofs.fields.read_number.Goals as goal

pub returns-in-Some : goal.returns-in-Some
returns-in-Some c =
    numeral-value c.args.t c.args.word.now c.is_negative.result c.in-Some.magnitude c.signed_value.result c.is_negative.ensures (rw c.unsigned.ensures at c.in-Some.ensures) c.signed_value.ensures

pub returns-in-None : goal.returns-in-None
returns-in-None c = no-numeral c.args.t c.args.word.now (rw c.unsigned.ensures at c.in-None.ensures)

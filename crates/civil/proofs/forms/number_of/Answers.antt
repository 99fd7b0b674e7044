use Rattle.std.proofs.Common.{◌≡◌, ◌<◌, true, length, get_or, take, arith}
use Rattle.std.proofs.lemmas.Int.Digits.{digits_value_more}
use Rattle.std.specs.Char.{is_ascii_digit}
use Rattle.std.specs.Str.Parse.{digits_value}
use Rattle.civil.proofs.FormLemmas.{all-at, digit-is, sum-more}
use Rattle.civil.proofs.forms.number_of.Goals as goal

pub loop-digit-preserved : goal.loop-digit-preserved
loop-digit-preserved c =
    let lt : c.loop-digit.digit-index < length c.args.digits.now = omega arith in
    let digit : is_ascii_digit (get_or c.args.digits.now c.loop-digit.digit-index 0) ≡ true = all-at is_ascii_digit c.args.digits.now c.loop-digit.digit-index 0 c.requires lt in
    let value = digit-is (get_or c.args.digits.now c.loop-digit.digit-index 0) digit in
    let step = sum-more (digits_value 10 (take c.loop-digit.digit-index c.args.digits.now)) c.from.result c.loop-digit.number c.loop-digit.invariant in
    rw (digits_value_more 10 c.args.digits.now c.loop-digit.digit-index lt, value) (omega (arith, step))

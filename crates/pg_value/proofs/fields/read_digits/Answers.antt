use Rattle.std.proofs.Common.{◌≡◌, ◌<◌, true, length, get_or, take, ap₂, ◌&&◌, ◌∙◌, sym, arith}
use Rattle.std.proofs.lemmas.List.Folds.{list_all_more}
use Rattle.std.proofs.lemmas.Int.Digits.{digits_value_more}
use Rattle.std.specs.Char.{is_ascii_digit}
use Rattle.std.specs.Str.Parse.{digits_value}
use Rattle.pg_value.proofs.Numerals.{digit_is, sum_more}
use Rattle.pg_value.proofs.fields.read_digits.Goals as goal

pub loop-digit-preserved : goal.loop-digit-preserved
loop-digit-preserved c =
    let lt : c.loop-digit.digit-index < length c.args.digits.now = omega arith in
    let digit : is_ascii_digit (get_or c.args.digits.now c.loop-digit.digit-index 0) ≡ true = sym c.is_ascii_digit.ensures.value ∙ c.if-not-is_ascii_digit.false in
    let value = digit_is (get_or c.args.digits.now c.loop-digit.digit-index 0) digit in
    let step = sum_more (digits_value 10 (take c.loop-digit.digit-index c.args.digits.now)) c.from.result c.loop-digit.number c.loop-digit.invariant.number in
    record {
      digits = list_all_more is_ascii_digit c.args.digits.now c.loop-digit.digit-index 0 lt ∙ ap₂ ◌&&◌ c.loop-digit.invariant.digits digit;
      number = rw (digits_value_more 10 c.args.digits.now c.loop-digit.digit-index lt, value) (omega (arith, step));
    }

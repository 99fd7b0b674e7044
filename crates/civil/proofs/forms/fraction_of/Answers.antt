use Rattle.std.proofs.Common.{◌≡◌, true, List, ℕ, subst, sym, arith}
use Rattle.std.specs.Char.{is_ascii_digit}
use Rattle.std.specs.List.{list_all}
use Rattle.civil.proofs.FormLemmas.{fraction-read, taken-digits}
use Rattle.civil.proofs.forms.fraction_of.Goals as goal

pub number_of-requires : goal.number_of-requires
number_of-requires c =
    subst (λ (ds : List ℕ). list_all is_ascii_digit ds ≡ true) (sym c.up_to-part.ensures) (taken-digits c.args.places c.args.digits.now c.requires.digits)

pub overflow_mul-result : goal.overflow_mul-result
overflow_mul-result c =
    let read = fraction-read c.args.places c.number_of.result c.ten_to.result c.args.digits.now c.up_to-part.result.now c.up_to-part.ensures c.number_of.ensures c.ten_to.ensures c.requires.few c.requires.digits in
    record { fits = omega (arith, read.2) }

pub returns-clause-value : goal.returns-clause-value
returns-clause-value c =
    (fraction-read c.args.places c.number_of.result c.ten_to.result c.args.digits.now c.up_to-part.result.now c.up_to-part.ensures c.number_of.ensures c.ten_to.ensures c.requires.few c.requires.digits).0

pub returns-clause-bound : goal.returns-clause-bound
returns-clause-bound c =
    (fraction-read c.args.places c.number_of.result c.ten_to.result c.args.digits.now c.up_to-part.result.now c.up_to-part.ensures c.number_of.ensures c.ten_to.ensures c.requires.few c.requires.digits).1

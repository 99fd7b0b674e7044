use Rattle.std.proofs.Common.{refl, arith}
use Rattle.std.proofs.lemmas.Fmt.{decimal_nonempty}
use Rattle.civil.proofs.WrittenLemmas.{decimal-longer, digit-more, digit-long, one-digit}
use Rattle.civil.proofs.written.Written.+put_decimal.Goals as goal

pub put-requires : goal.put-requires
put-requires t c = omega (arith, c.requires, decimal_nonempty c.args.number c.ranges.number.fits)

pub returns-then-number-lt10-clause-text : goal.returns-then-number-lt10-clause-text
returns-then-number-lt10-clause-text t c = one-digit c.args.number _ c.args.self.now c.put.new.self c.if-number-lt10.true refl c.put.ensures.text

pub returns-then-number-lt10-clause-long : goal.returns-then-number-lt10-clause-long
returns-then-number-lt10-clause-long t c = omega (arith, c.put.ensures.long, digit-long c.args.number c.if-number-lt10.true)

pub put_decimal-requires : goal.put_decimal-requires
put_decimal-requires t c =
    let one = decimal-longer c.args.number c.if-number-lt10.false c.ranges.number.fits in
    (omega (arith, c.decreases, c.if-number-lt10.false), omega (arith, c.requires, one))

pub put-requires-2 : goal.put-requires-2
put-requires-2 t c =
    let one = decimal-longer c.args.number c.if-number-lt10.false c.ranges.number.fits in
    omega (arith, c.requires, one, c.put_decimal.ensures.long)

pub returns-clause-text : goal.returns-clause-text
returns-clause-text t c =
    digit-more c.args.number _ c.args.self.now c.put_decimal.new.self c.put-2.new.self c.if-number-lt10.false c.ranges.number.fits c.put_decimal.ensures.text refl c.put-2.ensures.text

pub returns-clause-long : goal.returns-clause-long
returns-clause-long t c =
    let one = decimal-longer c.args.number c.if-number-lt10.false c.ranges.number.fits in
    omega (arith, one, c.put_decimal.ensures.long, c.put-2.ensures.long)

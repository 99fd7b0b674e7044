use Rattle.std.proofs.Common.{arith}
use Rattle.civil.proofs.FormLemmas.{ten-above}
use Rattle.civil.proofs.WrittenLemmas.{quotient-short}
use Rattle.civil.proofs.shown.put_size.Goals as goal

pub nonzero_div-size : goal.nonzero_div-size
nonzero_div-size c = omega (arith, c.ten_to.ensures, ten-above c.from.result)

pub put_decimal-requires : goal.put_decimal-requires
put_decimal-requires c = omega (arith, c.requires.room, quotient-short c.args.size c.ten_to.result c.ranges.size.fits)

pub put-requires : goal.put-requires
put-requires c = omega (arith, c.requires.room, c.put_decimal.ensures.long, quotient-short c.args.size c.ten_to.result c.ranges.size.fits)

pub put_figures-requires : goal.put_figures-requires
put_figures-requires c =
    omega (arith, c.requires.room, c.requires.scale, c.put_decimal.ensures.long, c.put.ensures.long, c.from-then-scale-gt0.ensures, quotient-short c.args.size c.ten_to.result c.ranges.size.fits)

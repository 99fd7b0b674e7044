use Rattle.std.proofs.Common.{arith}
use Rattle.std.proofs.lemmas.Int.{ints}
use Rattle.pg_value.proofs.Numerals.{negative-kept, negative-over, positive-kept, positive-over, limit_fits}
use Rattle.pg_value.proofs.fields.signed_value.Goals.{then-minus+else-magnitude-limit, else-minus+else-magnitude-limit-2}
use Rattle.pg_value.proofs.fields.signed_value.Goals as goal

pub returns-then-magnitude-limit : goal.returns-then-magnitude-limit
returns-then-magnitude-limit c = λ n is.
    negative-kept c.args.t c.args.minus n c.args.magnitude _ c.if-minus.true c.requires.integer is (omega (arith, c.limit_of-limit.ensures)) (omega (arith, ints, limit_fits c.args.t))

pub returns-then-magnitude-limit-2 : goal.returns-then-magnitude-limit-2
returns-then-magnitude-limit-2 c = λ n is.
    positive-kept c.args.t c.args.minus n c.args.magnitude _ c.if-minus.false is (omega (arith, c.limit_of-limit.ensures)) (omega (arith, ints, limit_fits c.args.t, c.limit_of-limit.ensures))

pub returns : goal.returns
returns c = λ n is. elim c.if-minus.branch [
  | then-minus+else-magnitude-limit w ↦ negative-over c.args.t c.args.minus n c.args.magnitude w.if-minus.true c.requires.integer is (omega (arith, c.limit_of-limit.ensures, w.if-magnitude-limit.false))
  | else-minus+else-magnitude-limit-2 w ↦ positive-over c.args.t c.args.minus n c.args.magnitude w.if-minus.false c.requires.integer is (omega (arith, c.limit_of-limit.ensures, w.if-magnitude-limit-2.false))
]

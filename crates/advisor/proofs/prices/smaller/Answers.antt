use Rattle.std.proofs.Common.{arith}
use Rattle.pg_base.proofs.SetLaws.{has-below}
use Rattle.advisor.proofs.prices.smaller.Goals as goal

pub one-requires : goal.one-requires
one-requires c = has-below c.minus-past.result.0 c.in-Some.first.0 (omega arith) c.in-Some.ensures.found

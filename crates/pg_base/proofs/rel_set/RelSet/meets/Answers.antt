use Rattle.std.proofs.Common.{◌<◌, arith, bit_and}
use Rattle.std.proofs.lemmas.Bool.Decides.{nat_tests}
use Rattle.pg_base.proofs.SetLaws.{meets-some, meets-positive}
use Rattle.pg_base.proofs.rel_set.RelSet.meets.Goals as goal

pub returns : goal.returns
returns c = (
  λ some. meets-some c.args.self.0 c.args.o.0 (omega arith) (grind (arith, nat_tests)),
  λ met. let some : 0 < bit_and c.args.self.0 c.args.o.0 = meets-positive _ _ met in grind (arith, nat_tests),
)

use Rattle.std.proofs.Common.{map}
use Rattle.pg_expr.specs.work.View.{cond}
use Rattle.index_match.proofs.ArmLemmas.{and_arm}
use Rattle.index_match.proofs.arms.arm_parts.Goals as goal

pub returns-in-Some : goal.returns-in-Some
returns-in-Some c = and_arm (cond c.args.arm.now) (map cond c.in-Some.parts.now) c.in-Some.ensures

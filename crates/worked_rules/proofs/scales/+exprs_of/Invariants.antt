use Rattle.std.proofs.Common.{length}
use Rattle.worked_rules.proofs.scales.+exprs_of.Given as goal

abbrev pub decreases-exprs_of : goal.decreases-exprs_of
decreases-exprs_of l = length l.parts.now

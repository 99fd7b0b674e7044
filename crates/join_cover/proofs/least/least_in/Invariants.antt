use Rattle.std.proofs.Common.{map}
use Rattle.plan_check.specs.work.Views.{entry}
use Rattle.join_cover.specs.work.Leasts.{IsLeastFrom}
use Rattle.join_cover.proofs.least.least_in.Given as goal

abbrev pub invariant-loop-i : goal.invariant-loop-i
invariant-loop-i l = IsLeastFrom (map entry l.entries) l.set.0 l.places l.fn.within.0 l.i l.least

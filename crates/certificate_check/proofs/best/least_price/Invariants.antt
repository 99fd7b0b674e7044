use Rattle.plan_check.specs.work.Views.{certificate}
use Rattle.certificate_check.proofs.LeastLemmas.{IsLeastBefore}
use Rattle.certificate_check.proofs.best.least_price.Given as goal

abbrev pub invariant-loop-n : goal.invariant-loop-n
invariant-loop-n l = IsLeastBefore l.cat l.q (certificate l.t) l.n l.least

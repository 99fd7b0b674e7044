use Rattle.plan_check.specs.work.Views.{certificate}
use Rattle.plan_check.specs.Reasons.{AreRight}
use Rattle.entry_check.proofs.judging.judge_entries.Given as goal

abbrev pub invariant-loop-n : goal.invariant-loop-n
invariant-loop-n l = AreRight l.cat l.q (certificate l.t) l.n

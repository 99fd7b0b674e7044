use Rattle.plan_check.specs.work.Views.{certificate}
use Rattle.certificate_check.proofs.CheckLemmas.{valid}
use Rattle.certificate_check.proofs.checking.judge_whole.Goals as goal

pub open_candidate-requires-clause-right : goal.open_candidate-requires-clause-right
open_candidate-requires-clause-right c = c.requires.whole.right

pub returns-in-Some : goal.returns-in-Some
returns-in-Some c = (c.requires.whole, c.requires.undominated, c.in-Some.ensures)

pub judge_best-requires-clause-right : goal.judge_best-requires-clause-right
judge_best-requires-clause-right c = c.requires.whole.right

pub judge_best-requires-clause-best : goal.judge_best-requires-clause-best
judge_best-requires-clause-best c = c.requires.whole.best

pub returns-in-Some-judge_best : goal.returns-in-Some-judge_best
returns-in-Some-judge_best c = (c.requires.whole.right, c.requires.undominated, c.in_default.ensures, c.in-Some-judge_best.ensures)

pub returns-in-None : goal.returns-in-None
returns-in-None c = valid c.args.j.now.cat.now c.args.j.now.q.now (certificate c.args.j.now.t.now) c.requires.whole c.requires.undominated c.in_default.ensures c.in-None.ensures

use Rattle.plan_check.specs.Views.{side}
use Rattle.plan_check.specs.work.Views.{certificate}
use Rattle.certificate_check.proofs.LeastLemmas.{some-better, this-side}
use Rattle.cost_rules.proofs.WorseLemmas.{no-worse-self}
use Rattle.certificate_check.proofs.best.better_side.Goals as goal

pub returns-in-Some-clause-some : goal.returns-in-Some-clause-some
returns-in-Some-clause-some c = some-better c.args.cat.now c.args.q.now (certificate c.args.t.now) (side c.args.s) c.args.least c.in-Some.x c.better.result c.requires.least c.in-Some.ensures.some c.better.ensures.from

pub returns-in-Some-clause-this : goal.returns-in-Some-clause-this
returns-in-Some-clause-this c = this-side c.args.cat.now c.args.q.now (certificate c.args.t.now) (side c.args.s) c.in-Some.x c.better.result c.in-Some.ensures.some c.better.ensures.second

pub returns-in-None-clause-first : goal.returns-in-None-clause-first
returns-in-None-clause-first c = no-worse-self c.args.least

pub returns-in-None-clause-this : goal.returns-in-None-clause-this
returns-in-None-clause-this c = λ x p. absurd (c.in-None.ensures.none p.plan p.is p.finished)

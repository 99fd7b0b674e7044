use Rattle.plan_tree.specs.Plans.{nest}
use Rattle.entry_check.proofs.OwnLemmas.{if-none-then, if-some}
use Rattle.entry_check.proofs.joins.own_nest.Goals as goal

pub returns-in-Some-clause-some : goal.returns-in-Some-clause-some
returns-in-Some-clause-some c = if-some c.own_of.result _ _ c.own_of.ensures.some (λ own h o i ra rb. h c.args.cat.now c.args.q.now (nest o i) (c.in-Some.ensures.some o i ra rb))

pub returns-in-Some-clause-none : goal.returns-in-Some-clause-none
returns-in-Some-clause-none c = if-none-then c.own_of.result _ _ c.own_of.ensures.none (λ h o i ra rb. h c.args.cat.now c.args.q.now (nest o i) (c.in-Some.ensures.some o i ra rb))

pub returns-in-None-clause-none : goal.returns-in-None-clause-none
returns-in-None-clause-none c = λ o i ra rb h. c.in-None.ensures.none o i ra rb h.plan.built h.admissible

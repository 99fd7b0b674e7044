use Rattle.plan_tree.specs.Costs.{cost}
use Rattle.plan_tree.specs.work.Views.{plan}
use Rattle.plan_tree.proofs.BoundLemmas.{lawful-rows}
use Rattle.plan_tree.proofs.CostableLemmas.{built-costable}
use Rattle.plan_space.proofs.JudgeLemmas.{at-limit, below-limit, names-judged}
use Rattle.plan_space.proofs.judged.judge_finished.Goals as goal

pub cost-requires-clause-plan : goal.cost-requires-clause-plan
cost-requires-clause-plan c = built-costable c.args.cat.now c.args.q.now (plan c.args.p.now) c.requires.finished.built

pub returns-then-cost-eq-MOST_COST : goal.returns-then-cost-eq-MOST_COST
returns-then-cost-eq-MOST_COST c = (c.requires.finished, at-limit c.cost.result (cost c.args.cat.now c.args.q.now (plan c.args.p.now)) c.cost.ensures.rule c.if-cost-eq-MOST_COST.true)

pub first_wrong-requires-clause-rows : goal.first_wrong-requires-clause-rows
first_wrong-requires-clause-rows c = lawful-rows c.args.cat.now c.args.q.now c.lawful.ensures

pub first_wrong-requires-clause-costable : goal.first_wrong-requires-clause-costable
first_wrong-requires-clause-costable c = built-costable c.args.cat.now c.args.q.now (plan c.args.p.now) c.requires.finished.built

pub first_wrong-requires-clause-admissible : goal.first_wrong-requires-clause-admissible
first_wrong-requires-clause-admissible c = below-limit c.cost.result (cost c.args.cat.now c.args.q.now (plan c.args.p.now)) c.cost.ensures.rule c.if-cost-eq-MOST_COST.false

pub returns-in-Some : goal.returns-in-Some
returns-in-Some c =
    names-judged c.args.cat.now c.args.q.now (plan c.args.p.now) c.args.numbers.now c.in-Some.wrong c.requires.finished
    (below-limit c.cost.result (cost c.args.cat.now c.args.q.now (plan c.args.p.now)) c.cost.ensures.rule c.if-cost-eq-MOST_COST.false) c.in-Some.ensures.some

pub returns-in-None : goal.returns-in-None
returns-in-None c = record {
  finished = c.requires.finished;
  admissible = below-limit c.cost.result (cost c.args.cat.now c.args.q.now (plan c.args.p.now)) c.cost.ensures.rule c.if-cost-eq-MOST_COST.false;
  numbers = c.in-None.ensures.none;
}

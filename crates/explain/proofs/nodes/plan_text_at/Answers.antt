use Rattle.plan_tree.specs.work.Views.{plan}
use Rattle.plan_tree.proofs.BoundLemmas.{lawful-rows}
use Rattle.explain.proofs.ShownLemmas.{shown-lines}
use Rattle.explain.proofs.nodes.plan_text_at.Goals as goal

pub put_plan-requires-clause-lines : goal.put_plan-requires-clause-lines
put_plan-requires-clause-lines c =
    shown-lines c.args.cat.now c.args.q.now (lawful-rows c.args.cat.now c.args.q.now c.lawful.ensures) (plan c.args.p.now.plan) c.requires.plan c.requires.admissible

use Rattle.std.proofs.Common.{ap, subst, sym, ◌∙◌}
use Rattle.std.specs.Prelude.{Some}
use Rattle.plan_tree.specs.Least.{IsBestPlan}
use Rattle.plan_tree.specs.Plans.{Plan}
use Rattle.plan_tree.specs.Space.{IsFinished}
use Rattle.planned_table.proofs.whole.tabled_of.Goals as goal

pub returns-clause-best : goal.returns-clause-best
returns-clause-best c = record {
  finished = subst (IsFinished c.args.cat.now c.args.q.now) (sym c.in_ok-best.ensures.tree) c.in-Some.ensures.best.finished;
  numbers = c.in_ok-best.ensures.numbers;
}

pub returns-clause-least : goal.returns-clause-least
returns-clause-least c = subst (IsBestPlan c.args.cat.now c.args.q.now) (sym c.in_ok-best.ensures.tree) c.in-Some.ensures.best

pub returns-clause-unfolds : goal.returns-clause-unfolds
returns-clause-unfolds c = c.in_ok-made.ensures.unfolds ∙ ap (λ (p : Plan). Some p) (sym c.in_ok-best.ensures.tree)

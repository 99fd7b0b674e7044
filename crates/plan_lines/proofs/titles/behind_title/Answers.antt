use Rattle.std.proofs.Common.{◌∙◌, ◌++◌, ℕ, List, ap}
use Rattle.plan_tree.specs.work.Views.{plan}
use Rattle.plan_lines.proofs.KeyLemmas.{title-is, whole-is}
use Rattle.plan_lines.proofs.titles.behind_title.Goals as goal

pub returns-clause-is : goal.returns-clause-is
returns-clause-is c = whole-is c.args.cat.now c.args.q.now (plan c.args.p.now) c.args.text.now c.behind_parts.result c.behind_parts.ensures.is

pub returns-clause-only : goal.returns-clause-only
returns-clause-only c = λ rest e. c.behind_parts.ensures.only rest (e ∙ ap (λ (l : List ℕ). l ++ rest) (title-is c.args.cat.now c.args.q.now (plan c.args.p.now)))

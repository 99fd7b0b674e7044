use Rattle.std.proofs.Common.{◌∙◌}
use Rattle.std.proofs.lemmas.Result.{IfOk-weaker}
use Rattle.explain.proofs.NumberLemmas.{both-costs}
use Rattle.explain.proofs.figures.numbers.Goals as goal

pub returns-in-Some : goal.returns-in-Some
returns-in-Some c =
    IfOk-weaker c.format-in-Some.result _ _ (λ text is. is ∙ both-costs c.args.window c.in-Some.field-0 c.args.cost c.args.rows c.in-Some.is) c.format-in-Some.ensures.ok

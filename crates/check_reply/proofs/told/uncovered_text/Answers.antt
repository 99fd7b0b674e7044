use Rattle.std.proofs.lemmas.Result.{IfOk-weaker}
use Rattle.plan_check.specs.work.Views.{entry}
use Rattle.check_reply.proofs.told.uncovered_text.Goals as goal

pub returns : goal.returns
returns c = IfOk-weaker c.entry_text.result _ _ (λ text is. (entry c.in_ok-told.told, c.in_ok-told.ensures.told, c.in_ok-told.ensures.line, is)) c.entry_text.ensures

use Rattle.reply.proofs.ReplyLemmas.{broken-has-plan}
use Rattle.reply.proofs.print.answer.Goals as goal

pub returns-in_err-answer_by-clause-no_plan : goal.returns-in_err-answer_by-clause-no_plan
returns-in_err-answer_by-clause-no_plan g c = broken-has-plan c.from_residual-in_err-answer_by.result _ _ c.from_residual-in_err-answer_by.ensures.1

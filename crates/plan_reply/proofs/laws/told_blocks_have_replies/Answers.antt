use Rattle.plan_reply.proofs.ReplyLemmas.{told-answers}
use Rattle.plan_reply.proofs.laws.told_blocks_have_replies.Goals as goal

pub returns : goal.returns
returns c = told-answers

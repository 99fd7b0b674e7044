use Rattle.script_laws.proofs.OneReplyLemmas.{one-reply}
use Rattle.script_laws.proofs.ReachedLemmas.{bound, lawful, own}
use Rattle.script_laws.proofs.one.a_statement_has_one_reply.Goals as goal
use Rattle.script_laws.specs.Reached.{reached}

pub returns : goal.returns
returns z = λ text before behind s other first replies.
    one-reply (reached before) s.action s.reply other (lawful text before s behind first) (bound text before s behind first) (own text before s behind first).replies replies

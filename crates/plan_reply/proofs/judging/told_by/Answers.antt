use Rattle.reply.specs.plan_laws_WellBoundLemmas.{bound-over}
use Rattle.plan_reply.proofs.judging.told_by.Goals as goal

pub judge-requires-clause-query : goal.judge-requires-clause-query
judge-requires-clause-query c = bound-over c.args.cat.now c.args.q.now c.requires.bound

use Rattle.sql_query.specs.Worlds.{world}
use Rattle.group_reply.proofs.AnswerLemmas.{has-answer, has-explanation}
use Rattle.group_reply.proofs.answer.plan_groups.Goals as goal

pub returns-clause-answer : goal.returns-clause-answer
returns-clause-answer g c = has-answer (world c.args.cat.now c.args.store.now.stored) c.args.g c.requires.store.world c.requires.bound _ c.in_ok-choose_groups.ensures.chosen

pub returns-clause-explanation : goal.returns-clause-explanation
returns-clause-explanation g c = has-explanation (world c.args.cat.now c.args.store.now.stored) c.args.g c.requires.store.world c.requires.bound _ c.in_ok-choose_groups.ensures.chosen

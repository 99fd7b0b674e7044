use Rattle.plan_space.proofs.PartLemmas.{own-count}
use Rattle.plan_reader.proofs.OwnLemmas.{own-plan}
use Rattle.plan_reader.proofs.laws.own_texts_are_written.Goals as goal

pub returns-clause-count : goal.returns-clause-count
returns-clause-count c = own-count

pub returns-clause-text : goal.returns-clause-text
returns-clause-text c = own-plan

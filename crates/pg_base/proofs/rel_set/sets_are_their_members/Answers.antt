use Rattle.pg_base.proofs.SetLaws.{has-below, same_set}
use Rattle.pg_base.proofs.rel_set.sets_are_their_members.Goals as goal

pub returns-clause-below : goal.returns-clause-below
returns-clause-below c = has-below

pub returns-clause-same : goal.returns-clause-same
returns-clause-same c = same_set

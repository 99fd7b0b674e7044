use Rattle.heap.proofs.MemberLemmas.{member-those, those-same}
use Rattle.heap.proofs.laws.those_are_their_members.Goals as goal

pub returns-clause-members : goal.returns-clause-members
returns-clause-members c = member-those

pub returns-clause-same : goal.returns-clause-same
returns-clause-same c = those-same

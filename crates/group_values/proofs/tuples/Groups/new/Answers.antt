use Rattle.std.proofs.Common.{[], sym, subst}
use Rattle.group_values.specs.work.Groups.{IsSumOf}
use Rattle.group_values.proofs.SumLemmas.{first-sum}
use Rattle.group_values.proofs.tuples.Groups.new.Goals as goal

pub returns-clause-none : goal.returns-clause-none
returns-clause-none c = subst (IsSumOf c.args.shape []) (sym c.in_ok-listing.ensures.groups) (first-sum c.args.shape)

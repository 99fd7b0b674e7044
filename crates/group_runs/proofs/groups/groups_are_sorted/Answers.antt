use Rattle.group_runs.proofs.BagLemmas.{groups-in-order}
use Rattle.group_runs.proofs.groups.groups_are_sorted.Goals as goal

pub returns : goal.returns
returns c = groups-in-order

use Rattle.std.proofs.Common.{ap, subst}
use Rattle.pareto.specs.work.Front.{Unrelated}
use Rattle.plan_tree.specs.work.Paths.{is_at_most}
use Rattle.plan_tree.specs.work.Views.{path}
use Rattle.join_search.specs.work.Tables.{paths_of}
use Rattle.planned_table.specs.work.Gathering.{AreUnrelated}
use Rattle.planned_table.proofs.GatherLemmas.{pairs-mapped}
use Rattle.planned_table.proofs.gathering.front_paths.Goals as goal

pub returns-in-Some-clause-unrelated : goal.returns-in-Some-clause-unrelated
returns-in-Some-clause-unrelated c =
    subst AreUnrelated (ap paths_of c.in-Some.ensures) (pairs-mapped path (Unrelated is_at_most) c.in-Some.front.now c.items.ensures.undominated)

use Rattle.std.proofs.Common.{◌∙◌, ap, map}
use Rattle.plan_tree.specs.work.Views.{path}
use Rattle.join_search.specs.work.Tables.{paths_of}
use Rattle.planner.proofs.least_plan.whole_paths.Goals as goal

pub returns-in-Some : goal.returns-in-Some
returns-in-Some c = ap (map path) c.items.ensures.items ∙ ap paths_of c.in-Some.ensures

pub returns-in-None : goal.returns-in-None
returns-in-None c = ap paths_of c.in-None.ensures

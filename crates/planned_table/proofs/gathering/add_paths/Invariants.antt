use Rattle.std.proofs.Common.{◌≡◌, ◌++◌, map, take}
use Rattle.plan_tree.specs.work.Views.{path}
use Rattle.planned_table.specs.work.Gathering.{shown}
use Rattle.planned_table.proofs.gathering.add_paths.Given as goal

abbrev pub invariant-loop-kept : goal.invariant-loop-kept
invariant-loop-kept l = shown l.listed.items ≡ shown l.fn.listed.items ++ map path (take l.kept-index l.paths)

use Rattle.std.proofs.Common.{◌≡◌, ◌++◌}
use Rattle.std.specs.Prelude.{All, Contains}
use Rattle.std.specs.Vec.Iter.{into_iter_items}
use Rattle.pareto.specs.work.Front.{IsCovered}
use Rattle.plan_tree.specs.work.Views.{is_path_at_most}
use Rattle.kept_paths.proofs.kept.front_of.Given as goal

-- the front has paths of the list alone, and covers those that were offered
abbrev pub invariant-loop-made : goal.invariant-loop-made
invariant-loop-made l = record {
  some : All (Contains l.fn.paths.items) l.front;
  covered : All (IsCovered is_path_at_most l.front) l.yielded;
  whole : l.fn.paths.items ≡ l.yielded ++ into_iter_items l.made-iterator;
}

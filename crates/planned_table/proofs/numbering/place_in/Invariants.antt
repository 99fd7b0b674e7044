use Rattle.std.proofs.Common.{◌≢◌, ◌<◌, ◌≤◌, ℕ}
use Rattle.std.specs.Prelude.{Some, slice_get}
use Rattle.plan_tree.specs.work.Views.{plan}
use Rattle.planned_table.specs.work.Numbering.{trees}
use Rattle.planned_table.proofs.numbering.place_in.Given as goal

abbrev pub invariant-loop-n : goal.invariant-loop-n
invariant-loop-n l = (m : ℕ) → l.from ≤ m → m < l.n → slice_get (trees l.listed) m ≢ Some (plan l.tree)

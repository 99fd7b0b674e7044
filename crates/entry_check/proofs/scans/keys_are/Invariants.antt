use Rattle.std.proofs.Common.{◌≡◌, ◌<◌, ℕ}
use Rattle.std.specs.Prelude.{slice_get}
use Rattle.pathkeys.specs.work.Finding.{class_numbers}
use Rattle.plan_tree.specs.Keys.{keys_of}
use Rattle.entry_check.specs.work.Owning.{tree_of}
use Rattle.entry_check.proofs.scans.keys_are.Given as goal

abbrev pub invariant-loop-n : goal.invariant-loop-n
invariant-loop-n l = (k : ℕ) → k < l.n → slice_get (keys_of l.cat l.q (tree_of l.s)) k ≡ slice_get (class_numbers l.list) k

use Rattle.std.proofs.Common.{◌≡◌, ◌<◌, ℕ}
use Rattle.std.specs.Prelude.{slice_get}
use Rattle.pathkeys.specs.work.Finding.{class_numbers}
use Rattle.plan_tree.specs.Keys.{keys_of}
use Rattle.plan_tree.specs.work.Views.{plan}
use Rattle.plan_space.proofs.keys.keys_begin_with.Given as goal

abbrev pub invariant-loop-n : goal.invariant-loop-n
invariant-loop-n l = (k : ℕ) → k < l.n → slice_get (keys_of l.cat l.q (plan l.p)) k ≡ slice_get (class_numbers l.list) k

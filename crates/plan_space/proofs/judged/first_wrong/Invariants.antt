use Rattle.std.proofs.Common.{◌≡◌, take}
use Rattle.plan_tree.specs.work.Views.{plan}
use Rattle.plan_space.specs.Numbered.{own_numbers}
use Rattle.plan_space.proofs.judged.first_wrong.Given as goal

abbrev pub invariant-loop-place : goal.invariant-loop-place
invariant-loop-place l = take l.place l.numbers ≡ take l.place (own_numbers l.cat l.q (plan l.p))

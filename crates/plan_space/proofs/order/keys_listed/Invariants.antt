use Rattle.std.proofs.Common.{◌≡◌, length, take}
use Rattle.pathkeys.specs.work.Finding.{class_numbers}
use Rattle.plan_tree.specs.Keys.{keys_of}
use Rattle.plan_tree.specs.work.Views.{plan}
use Rattle.plan_space.proofs.order.keys_listed.Given as goal

-- the keys before the place stand in the list
abbrev pub invariant-loop-n : goal.invariant-loop-n
invariant-loop-n l = record {
  long : length l.list.items ≡ l.n;
  first : class_numbers l.list.items ≡ take l.n (keys_of l.cat l.q (plan l.p));
}

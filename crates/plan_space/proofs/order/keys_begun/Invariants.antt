use Rattle.std.proofs.Common.{◌≤◌, drop, length}
use Rattle.pathkeys.specs.work.Finding.{class_numbers}
use Rattle.plan_space.specs.work.OrderKeys.{GoesOnAs, classes_asked}
use Rattle.plan_space.proofs.order.keys_begun.Given as goal

-- the list begins with all classes where it goes on with those of the items left
abbrev pub invariant-loop-item : goal.invariant-loop-item
invariant-loop-item l = record {
  within : l.at ≤ length l.list;
  goes : GoesOnAs (class_numbers l.list) 0 (classes_asked l.classes l.order) l.at (classes_asked l.classes (drop l.item-index l.order));
}

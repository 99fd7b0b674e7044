use Rattle.std.proofs.Common.{◌≡◌, length, take}
use Rattle.pathkeys.specs.work.Finding.{class_numbers}
use Rattle.plan_tree.specs.Keys.{keys_of}
use Rattle.join_cover.specs.entry_check_Owning.{tree_of}
use Rattle.scan_cover.proofs.indexes.keys_of.Given as goal

-- the keys before the place stand in the list
abbrev pub invariant-loop-n : goal.invariant-loop-n
invariant-loop-n l = record {
  long : length l.list.items ≡ l.n;
  first : class_numbers l.list.items ≡ take l.n (keys_of l.cat l.q (tree_of l.s));
}

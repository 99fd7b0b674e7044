use Rattle.std.proofs.Common.{◌≡◌, ◌++◌, take}
use Rattle.pathkeys.specs.work.Finding.{class_numbers}
use Rattle.join_search.specs.work.Merges.{all_longer}
use Rattle.join_search.proofs.lists.add_all_longer.Given as goal

abbrev pub invariant-loop-list : goal.invariant-loop-list
invariant-loop-list l = l.out.items ≡ l.fn.out.items ++ all_longer (class_numbers l.classes) (take l.list-index l.lists)

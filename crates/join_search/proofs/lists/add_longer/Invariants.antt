use Rattle.std.proofs.Common.{◌≡◌, ◌++◌, take}
use Rattle.pathkeys.specs.work.Finding.{class_numbers}
use Rattle.join_search.specs.work.Merges.{longer}
use Rattle.join_search.proofs.lists.add_longer.Given as goal

abbrev pub invariant-loop-c : goal.invariant-loop-c
invariant-loop-c l = l.out.items ≡ l.fn.out.items ++ longer (class_numbers (take l.c-index l.classes)) l.list

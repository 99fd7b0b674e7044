use Rattle.std.proofs.Common.{◌≡◌, take}
use Rattle.pathkeys.specs.work.Finding.{class_numbers}
use Rattle.kept_paths.proofs.kept.numbers_of.Given as goal

abbrev pub invariant-loop-class : goal.invariant-loop-class
invariant-loop-class l = l.numbers.items ≡ class_numbers (take l.class-index l.class-items)

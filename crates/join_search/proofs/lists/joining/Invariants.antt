use Rattle.std.proofs.Common.{◌≡◌, map, take}
use Rattle.std.specs.Option.{option_map}
use Rattle.eq_classes.specs.declared.classes.ClassNo.{ClassNo}
use Rattle.pathkeys.specs.work.Finding.{class_numbers}
use Rattle.join_search.proofs.ListLemmas.{somes}
use Rattle.join_search.proofs.lists.joining.Given as goal

abbrev pub invariant-loop-n : goal.invariant-loop-n
invariant-loop-n l = class_numbers l.found.items ≡ somes (map (option_map (λ (c : ClassNo). c.0)) (take l.n l.four))

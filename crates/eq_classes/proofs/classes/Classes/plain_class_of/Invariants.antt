use Rattle.std.proofs.Common.{◌≡◌, drop}
use Rattle.std.specs.List.{position_from}
use Rattle.eq_classes.specs.Classes.{is_plain}
use Rattle.eq_classes.proofs.classes.Classes.plain_class_of.Given as goal

abbrev pub invariant-loop-n : goal.invariant-loop-n
invariant-loop-n l = position_from (is_plain l.c) l.n (drop l.n l.self.classes) ≡ position_from (is_plain l.c) 0 l.self.classes

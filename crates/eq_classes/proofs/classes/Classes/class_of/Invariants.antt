use Rattle.std.proofs.Common.{◌≡◌, drop}
use Rattle.std.specs.List.{position_from}
use Rattle.eq_classes.specs.Classes.{is_in, in_family}
use Rattle.eq_classes.proofs.classes.Classes.class_of.Given as goal

abbrev pub invariant-loop-n : goal.invariant-loop-n
invariant-loop-n l = position_from (λ k. is_in k (in_family l.c l.f)) l.n (drop l.n l.self.classes) ≡ position_from (λ k. is_in k (in_family l.c l.f)) 0 l.self.classes

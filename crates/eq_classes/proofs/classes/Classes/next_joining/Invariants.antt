use Rattle.std.proofs.Common.{◌≡◌, drop}
use Rattle.opfamily.specs.pg_base_Sets.{has}
use Rattle.eq_classes.specs.Parts.{joining_from}
use Rattle.eq_classes.proofs.classes.Classes.next_joining.Given as goal

abbrev pub invariant-loop-n : goal.invariant-loop-n
invariant-loop-n l = joining_from (has l.a.0) (has l.b.0) l.n (drop l.n l.self.classes) ≡ joining_from (has l.a.0) (has l.b.0) l.from (drop l.from l.self.classes)

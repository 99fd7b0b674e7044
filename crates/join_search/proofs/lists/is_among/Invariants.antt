use Rattle.std.proofs.Common.{◌≡◌, nat_eq, map, drop}
use Rattle.std.specs.List.{list_any}
use Rattle.eq_classes.specs.declared.classes.ClassNo.{ClassNo}
use Rattle.join_search.proofs.lists.is_among.Given as goal

abbrev pub invariant-loop-k : goal.invariant-loop-k
invariant-loop-k l = list_any (nat_eq l.c.0) (map (λ (k : ClassNo). k.0) (drop l.k-index l.classes)) ≡ list_any (nat_eq l.c.0) (map (λ (k : ClassNo). k.0) l.classes)

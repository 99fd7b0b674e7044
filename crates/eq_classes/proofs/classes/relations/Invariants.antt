use Rattle.std.proofs.Common.{List, ◌++◌, drop}
use Rattle.opfamily.specs.pg_base_rel_set_RelSet.{RelSet}
use Rattle.eq_classes.specs.work.Listing.{AreNamed}
use Rattle.eq_classes.proofs.classes.relations.Given as goal

abbrev pub invariant-loop-k : goal.invariant-loop-k
invariant-loop-k l = (rest : List RelSet) → AreNamed rest (drop l.k-index l.clauses) → AreNamed (l.named.items ++ rest) l.clauses

use Rattle.std.proofs.Common.{◌≡◌}
use Rattle.pg_value.specs.declared.operators.Family.TheVariants.{Integer}
use Rattle.opfamily.specs.KeyOrder.{key_family}
use Rattle.worked_data.proofs.hashed.put_each.Given as goal

abbrev pub invariant-loop-n : goal.invariant-loop-n
invariant-loop-n l = key_family l.index.key ≡ Integer

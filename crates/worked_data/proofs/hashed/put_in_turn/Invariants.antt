use Rattle.std.proofs.Common.{◌≡◌}
use Rattle.pg_value.specs.declared.operators.Family.TheVariants.{Integer}
use Rattle.opfamily.specs.KeyOrder.{key_family}
use Rattle.worked_data.proofs.hashed.put_in_turn.Given as goal

abbrev pub invariant-loop-row : goal.invariant-loop-row
invariant-loop-row l = key_family l.index.key ≡ Integer

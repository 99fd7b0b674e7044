use Rattle.std.proofs.Common.{All}
use Rattle.pg_value.specs.declared.operators.Family.TheVariants.{Integer}
use Rattle.pg_value.specs.work.Order.{IsOfFamily}
use Rattle.hash_index.specs.work.Held.{Held}
use Rattle.worked_data.proofs.hashed.rows_with.Given as goal

abbrev pub invariant-loop-n : goal.invariant-loop-n
invariant-loop-n l = All (λ (h : Held). IsOfFamily Integer h.value) l.rows.items

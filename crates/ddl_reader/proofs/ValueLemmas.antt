-- The values that literals give to a column.
use Rattle.std.proofs.Common.{◌≡◌, Ok}
use Rattle.pg_value.specs.declared.value.SqlType.{SqlType}
use Rattle.pg_value.specs.declared.value.Value.{Value}
use Rattle.sql_grammar.specs.Syntax.{Lit}
use Rattle.catalog.specs.Statistics.{IsValueOf}
use Rattle.expr_reader.specs.Literals.{typed_value}
use Rattle.expr_reader.proofs.ValueLemmas.{typed-given}

-- a literal gives a value of the column's type, and not NULL
pub typed-is : (t : SqlType) (l : Lit) (v : Value) → typed_value t l ≡ Ok v → IsValueOf t v
typed-is = typed-given

-- What is seen of a tuple where it is grouped.
use Rattle.std.specs.Prelude.{List, map, Option, None, Some}
use Rattle.pg_expr.specs.declared.operand.ColRef.{ColRef}
use Rattle.pg_value.specs.declared.value.Value.{Value}
use Rattle.pg_value.specs.declared.value.Value.TheVariants.{Null}
use Rattle.sql_query.specs.Queries.{Query}
use Rattle.sql_query.specs.Tuples.{Tuple, value_at}
use Rattle.sql_query.specs.Worlds.{World}
use Rattle.group_values.specs.Groups.{Seen}

-- the value of a call's column, NULL for `count(*)`, which has none
abbrev pub arg_at : World → Query → Tuple → Option ColRef → Value
arg_at w q t None = Null
arg_at w q t (Some x) = value_at w q t x

-- the values of the GROUP BY columns, and one for each call
abbrev pub seen_of : World → Query → List ColRef → List (Option ColRef) → Tuple → Seen
seen_of w q keys args t = record { keys = map (value_at w q t) keys; args = map (arg_at w q t) args }

use Rattle.std.proofs.Common.{◌≡◌, ◌++◌, drop, false}
use Rattle.sql_grammar.specs.Reading.{unquoted}
use Rattle.expr_reader.proofs.values.unquoted.Given as goal

abbrev pub invariant-loop-byte : goal.invariant-loop-byte
invariant-loop-byte l = l.value.items ++ unquoted l.second (drop l.byte-index l.inside) ≡ unquoted false l.inside

-- Working words beside those of `Binding`.
use Rattle.std.specs.Prelude.{List, Result}
use Rattle.pg_base.specs.declared.faults.Fault.{Fault}
use Rattle.pg_expr.specs.declared.operand.ColRef.{ColRef}
use Rattle.pg_expr.specs.Cond.{Cond}
use Rattle.catalog.specs.Range.{type_in}
use Rattle.eq_classes.specs.Classes.{Premises, conjuncts_in}
use Rattle.eq_classes.specs.declared.order.OrderItem.{OrderItem}
use Rattle.expr_reader.specs.declared.cursor.Spelled.{Spelled}
use Rattle.expr_reader.specs.Scope.{Scope, under}
use Rattle.query_reader.specs.work.Scope.{Sight}
use Rattle.query_reader.specs.Binding.{found_relation}

-- the columns under an alias that was read
abbrev pub columns_under : Scope → Spelled → Result (List ColRef) Fault
columns_under scope qualifier = found_relation (under qualifier.bytes scope) qualifier.token

-- what the classes of conjuncts as written and of an order are made of
abbrev pub premises_of : Sight → List OrderItem → List Cond → Premises
premises_of s order ws = record { conjuncts = conjuncts_in ws; order = order; type_of = type_in s.contents s.range }

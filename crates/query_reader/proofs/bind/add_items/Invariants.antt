use Rattle.std.proofs.Common.{◌≡◌, List, ◌++◌, drop, Ok}
use Rattle.pg_expr.specs.declared.operand.ColRef.{ColRef}
use Rattle.query_reader.specs.work.Scope.{visible_in}
use Rattle.query_reader.specs.Binding.{then_columns, list_columns}
use Rattle.query_reader.proofs.bind.add_items.Given as goal

abbrev pub invariant-loop-item : goal.invariant-loop-item
invariant-loop-item l =
    let scope = visible_in l.relations in
    (so : List ColRef) × (l.all.items ≡ l.fn.all.items ++ so) ×
    (then_columns (Ok so) (list_columns scope (drop l.item-index l.items)) ≡ list_columns scope l.items)

use Rattle.std.proofs.Common.{◌≡◌, ℕ, List, ◌++◌, drop, length}
use Rattle.catalog.specs.Contents.{table_at}
use Rattle.expr_reader.specs.Scope.{columns_in_scope}
use Rattle.query_reader.specs.Scope.{columns_from}
use Rattle.query_reader.proofs.relations.add_columns.Given as goal

abbrev pub invariant-loop-col : goal.invariant-loop-col
invariant-loop-col l =
    let names = (table_at l.fn.cat l.fn.table).names in
    (l.count ≡ length names) ×
    ((alias : List ℕ) → l.all.items ++ columns_in_scope (columns_from alias (record { 0 = l.fn.number }) l.col (drop l.col names)) ≡ l.fn.all.items ++ columns_in_scope (columns_from alias (record { 0 = l.fn.number }) 0 names))

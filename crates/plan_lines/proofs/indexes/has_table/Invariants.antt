use Rattle.plan_lines.proofs.KeyLemmas.{IsBefore}
use Rattle.plan_lines.proofs.indexes.has_table.Given as goal

abbrev pub invariant-loop-table : goal.invariant-loop-table
invariant-loop-table l = IsBefore l.q l.t l.table-index

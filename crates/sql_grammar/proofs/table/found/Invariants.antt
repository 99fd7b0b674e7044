use Rattle.std.proofs.Common.{◌≡◌, drop}
use Rattle.sql_grammar.specs.work.Table.{lent_rows, row_for}
use Rattle.sql_grammar.proofs.table.found.Given as goal

abbrev pub invariant-loop-n : goal.invariant-loop-n
invariant-loop-n l = row_for (lent_rows l.rows) l.class ≡ row_for (lent_rows (drop l.n l.rows)) l.class

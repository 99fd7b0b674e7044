use Rattle.std.proofs.Common.{◌≡◌, take}
use Rattle.pg_base.specs.Sets.{has}
use Rattle.pathkeys.specs.work.Finding.{class_numbers}
use Rattle.sort_rows.specs.work.Columns.{sorted_columns}
use Rattle.sort_rows.proofs.columns.sort_columns.Given as goal

abbrev pub invariant-loop-key : goal.invariant-loop-key
invariant-loop-key l = l.columns.items ≡ sorted_columns l.classes (has l.set.0) (class_numbers (take l.key-index l.keys))

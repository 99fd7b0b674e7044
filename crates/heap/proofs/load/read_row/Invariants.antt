use Rattle.std.proofs.Common.{◌≡◌, ◌+◌, take, drop}
use Rattle.std.specs.List.{AllZip}
use Rattle.csv.specs.Records.{fields_of}
use Rattle.heap.specs.Loading.{values_from}
use Rattle.heap.specs.work.Loading.{BeginsWith, appended}
use Rattle.heap.specs.Stored.{IsColumnValue}
use Rattle.heap.proofs.Rows.{prepended}
use Rattle.heap.proofs.load.read_row.Given as goal

abbrev pub invariant-loop-col : goal.invariant-loop-col
invariant-loop-col l = record {
  kept : BeginsWith l.fn.values.items l.values.items;
  values : values_from (l.before + 1) 0 l.columns (fields_of l.fields) ≡ prepended (appended l.fn.values.items l.values.items) (values_from (l.before + 1) l.col (drop l.col l.columns) (drop l.col (fields_of l.fields)));
  lawful : AllZip IsColumnValue (take l.col l.columns) (appended l.fn.values.items l.values.items);
}

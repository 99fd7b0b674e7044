use Rattle.std.proofs.Common.{◌≡◌, ◌+◌, ◌*◌, ◌<◌, ◌≤◌, ℕ, List, Some, Ok, true, length}
use Rattle.std.specs.List.{All}
use Rattle.csv.specs.Reading.{Reached, Ready, default_config, source_of, strip_bom}
use Rattle.csv.specs.declared.parser.State.TheVariants as st
use Rattle.csv.specs.declared.reader.Trim.TheVariants as trim
use Rattle.heap.specs.Loading.{rows_from}
use Rattle.heap.specs.work.Loading.{BeginsWith, appended_rows}
use Rattle.heap.specs.Stored.{IsRowOf}
use Rattle.heap.proofs.load.read_rows.Given as goal

abbrev pub invariant-loop-taken : goal.invariant-loop-taken
invariant-loop-taken l = record {
  trim : l.taken-iterator.rdr.trim ≡ trim.None;
  ready : Ready l.taken-iterator.rdr;
  turns : 0 < l.taken-iterator.left;
  config : l.taken-iterator.rdr.config ≡ default_config;
  flexible : l.taken-iterator.rdr.flexible ≡ true;
  rest : List ℕ;
  source : source_of (λ s. Some s.now) l.taken-iterator.rdr ≡ Some rest;
  read : List (List (List ℕ));
  reached : Reached default_config st.StartRecord (strip_bom l.fn.block) read l.taken-iterator.rdr.state rest;
  place : length read ≡ l.count;
  kept : BeginsWith l.fn.values.items l.values.items;
  rows : rows_from l.columns l.room 1 read ≡ Ok (appended_rows l.columns l.count l.fn.values.items l.values.items);
  few : l.count ≤ l.room;
  count : length l.values.items ≡ length l.fn.values.items + l.count * length l.columns;
  lawful : All (IsRowOf l.columns) (appended_rows l.columns l.count l.fn.values.items l.values.items);
}

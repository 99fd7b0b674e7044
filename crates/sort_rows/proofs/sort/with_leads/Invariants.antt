use Rattle.std.proofs.Common.{◌≡◌, length, map, take}
use Rattle.sort_rows.specs.work.Keyed.{AreKeyed, rows_keyed}
use Rattle.sort_rows.proofs.sort.with_leads.Given as goal

abbrev pub invariant-loop-place : goal.invariant-loop-place
invariant-loop-place l = record {
  rows : rows_keyed l.input.rows l.items.items ≡ take l.place l.input.rows;
  keys : AreKeyed l.columns (map (λ v. v.now) l.keys) (length l.input.rows) l.items.items;
}
